use Rattle.std.proofs.Common.{◌≡◌, ◌++◌, drop}
use Rattle.gauge_poll.specs.Lines.{flows_lines}
use Rattle.gauge_poll.proofs.lines.put_flows_lines.Given as goal

-- what is left completes the lines
abbrev pub invariant-loop-flow : goal.invariant-loop-flow
invariant-loop-flow l = l.lines ++ flows_lines l.watcher l.moment l.dp (drop l.flow-index l.flows) ≡ l.fn.lines ++ flows_lines l.watcher l.moment l.dp l.flows
