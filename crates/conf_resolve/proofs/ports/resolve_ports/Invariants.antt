use Rattle.std.proofs.Common.{◌≡◌, ◌++◌, map, drop}
use Rattle.conf_resolve.specs.Resolved.{port_of}
use Rattle.conf_resolve.proofs.ports.resolve_ports.Given as goal

-- what is left completes the list
abbrev pub invariant-loop-port : goal.invariant-loop-port
invariant-loop-port l = l.made ++ map (port_of l.conf l.dp) (drop l.port-index l.dp.ports) ≡ map (port_of l.conf l.dp) l.dp.ports
