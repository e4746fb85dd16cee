use Rattle.std.proofs.Common.{◌≡◌, ◌++◌, drop}
use Rattle.gauge_poll.proofs.parts.add_flows.Given as goal

-- what is left completes the list
abbrev pub invariant-loop-flow : goal.invariant-loop-flow
invariant-loop-flow l = l.list ++ drop l.flow-index l.flows ≡ l.fn.list ++ l.flows
