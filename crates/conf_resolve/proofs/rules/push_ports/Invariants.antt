use Rattle.std.proofs.Common.{◌≡◌, ◌++◌, drop}
use Rattle.conf_resolve.proofs.rules.push_ports.Given as goal

-- what is left completes the list
abbrev pub invariant-loop-port : goal.invariant-loop-port
invariant-loop-port l = l.ports ++ drop l.port-index l.others ≡ l.fn.ports ++ l.others
