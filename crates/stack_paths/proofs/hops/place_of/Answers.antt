use Rattle.std.proofs.Common.{arith, below_more}
use Rattle.std.proofs.lemmas.Bool.Decides.{nat_tests}
use Rattle.stack_paths.proofs.Places.{ids-get_or, ids-within}
use Rattle.stack_paths.proofs.hops.place_of.Goals as goal

pub loop-place-preserved : goal.loop-place-preserved
loop-place-preserved c =
    below_more _ _ c.loop-place.invariant (λ e. let at = ids-get_or c.args.nodes.now c.loop-place.place (omega arith) c.args.dp e in let t = c.if-eq.ensures in grind (arith, nat_tests))

pub returns : goal.returns
returns c = λ i e. absurd (c.loop-place.invariant i (omega (arith, ids-within c.args.nodes.now i c.args.dp e)) e)
