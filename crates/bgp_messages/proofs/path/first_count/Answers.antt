use Rattle.std.proofs.Common.{◌≡◌, true, sym, ap, ◌∙◌, arith}
use Rattle.std.proofs.lemmas.Bool.Decides.{nat_tests}
use Rattle.bgp_messages.specs.Paths.{is_known}
use Rattle.bgp_messages.proofs.Paths.{segment_begins}
use Rattle.bgp_messages.proofs.path.first_count.Goals as goal

pub returns-clause-found : goal.returns-clause-found
returns-clause-found c =
    let known : c.is_known.result ≡ true = grind (arith, nat_tests, c.if-not-is_known.false) in
    segment_begins c.from-count.result c.args.bytes.now (sym (c.is_known.ensures ∙ ap is_known c.u8_at.ensures) ∙ known)
    (omega (arith, c.u8_at-2.ensures, c.from-count.ensures)) (omega (arith, c.if-count-eq0.false)) (omega (arith, c.if-bytes-count.false))
