use Rattle.std.proofs.Common.{◌≡◌, ◌+◌, ap, ◌∙◌, arith}
use Rattle.bgp_messages.specs.Numbers.{number_in}
use Rattle.bgp_messages.specs.Attributes.{length_octets}
use Rattle.bgp_messages.proofs.Attributes.{attribute_sizes, attribute_cut}
use Rattle.bgp_messages.proofs.attribute.first_sizes.Goals as goal

pub told_length-requires-clause-octets : goal.told_length-requires-clause-octets
told_length-requires-clause-octets c = c.length_octets-octets.ensures ∙ ap length_octets c.u8_at.ensures

pub returns-then-bytes-head-2-clause-none : goal.returns-then-bytes-head-2-clause-none
returns-then-bytes-head-2-clause-none c =
    let bytes = c.args.bytes.now in
    let octets : c.length_octets-octets.result ≡ length_octets (number_in 0 1 bytes) = c.length_octets-octets.ensures ∙ ap length_octets c.u8_at.ensures in
    let len = c.from-len.ensures ∙ c.told_length.ensures ∙ ap (λ n. number_in 2 n bytes) octets in
    attribute_cut bytes (omega (arith, c.if-bytes-head-2.true, octets, len))

pub returns-clause-found : goal.returns-clause-found
returns-clause-found c =
    let bytes = c.args.bytes.now in
    let octets : c.length_octets-octets.result ≡ length_octets (number_in 0 1 bytes) = c.length_octets-octets.ensures ∙ ap length_octets c.u8_at.ensures in
    let len = c.from-len.ensures ∙ c.told_length.ensures ∙ ap (λ n. number_in 2 n bytes) octets in
    attribute_sizes (2 + c.length_octets-octets.result) (2 + c.length_octets-octets.result + c.from-len.result) c.from-len.result bytes
    (omega (arith, octets)) len (omega arith) (omega (arith, c.if-bytes-head-2.false))
