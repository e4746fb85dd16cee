use Rattle.prom_text.proofs.RowLaws.{FlowsSoFar}
use Rattle.prom_text.proofs.rows.make_flow_rows.Given as goal

abbrev pub invariant-loop-flow : goal.invariant-loop-flow
invariant-loop-flow l = FlowsSoFar l.dp l.flows l.flow-index l.seen l.rows
