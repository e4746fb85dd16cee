use Rattle.std.proofs.Common.{◌≡◌, ◌++◌, drop}
use Rattle.gauge_poll.proofs.parts.add_ports.Given as goal

-- what is left completes the list
abbrev pub invariant-loop-port : goal.invariant-loop-port
invariant-loop-port l = l.list ++ drop l.port-index l.ports ≡ l.fn.list ++ l.ports
