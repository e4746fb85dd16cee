use Rattle.std.proofs.Common.{sym, ◌∙◌}
use Rattle.conf_gather.proofs.KnownLemmas.{found_here, passed_here}
use Rattle.conf_gather.proofs.again.first_known.Goals as goal

pub returns-then-has : goal.returns-then-has
returns-then-has c = λ before are.
    found_here before c.args.pairs.now c.args.known.now c.loop-pair.pair-index c.pair-item.result c.loop-pair-test.true c.pair-item.is are (c.loop-pair.invariant before are) (sym c.has.ensures ∙ c.if-has.true)

pub loop-pair-preserved : goal.loop-pair-preserved
loop-pair-preserved c = λ before are.
    passed_here before c.args.pairs.now c.args.known.now c.loop-pair.pair-index c.pair-item.result c.loop-pair-test.true c.pair-item.is are (c.loop-pair.invariant before are) (sym c.has.ensures ∙ c.if-has.false)
