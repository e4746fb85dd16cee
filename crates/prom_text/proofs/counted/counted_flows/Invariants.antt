use Rattle.prom_text.proofs.Kept.{FlowsSoFar}
use Rattle.prom_text.proofs.counted.counted_flows.Given as goal

abbrev pub invariant-loop-flow : goal.invariant-loop-flow
invariant-loop-flow l = FlowsSoFar l.flows l.flow-index l.seen l.made
