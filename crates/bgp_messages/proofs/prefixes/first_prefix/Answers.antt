use Rattle.std.proofs.Common.{◌≡◌, ◌+◌, ◌/◌, drop, sym, ap, ◌∙◌, arith}
use Rattle.bgp_messages.specs.Numbers.{number_in}
use Rattle.bgp_messages.specs.Prefixes.{octets}
use Rattle.bgp_messages.proofs.PrefixLaws.{prefix_begins, prefix_long, prefix_cut}
use Rattle.bgp_messages.proofs.prefixes.first_prefix.Goals as goal
use Rattle.bgp_messages.proofs.prefixes.first_prefix.Goals.{then-len-gt32-via-then-len-gt32, then-len-gt32-via-else-len-gt32+then-bytes-size}

pub returns-then-len-gt32-clause-none : goal.returns-then-len-gt32-clause-none
returns-then-len-gt32-clause-none c =
    let bytes = c.args.bytes.now in
    let told : c.from.result ≡ number_in 0 1 bytes = omega (arith, c.from.ensures, c.u8_at-len.ensures) in
    let size : octets c.from.result ≡ octets (number_in 0 1 bytes) = ap octets told in
    elim c.then-len-gt32.branch [
      | then-len-gt32-via-then-len-gt32 w ↦ prefix_long bytes (omega (arith, w.if-len-gt32.true, c.u8_at-len.ensures))
      | then-len-gt32-via-else-len-gt32+then-bytes-size w ↦ prefix_cut bytes (omega (arith, w.if-bytes-size.true, size))
    ]

pub returns-clause-found : goal.returns-clause-found
returns-clause-found c =
    let bytes = c.args.bytes.now in
    let same : c.from.result ≡ c.u8_at-len.result = omega (arith, c.from.ensures) in
    prefix_begins _ (1 + (c.from.result + 7) / 8) bytes (sym c.u8_at-len.ensures) (ap (λ n. 1 + octets n) same) (omega (arith, c.if-bytes-size.false))
    (c.address_of.ensures ∙ ap (number_in 0 4) (c.split_at-2.ensures.back ∙ ap (drop 1) c.split_at.ensures.front))
