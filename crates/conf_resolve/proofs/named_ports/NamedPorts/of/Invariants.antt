use Rattle.std.proofs.Common.{take}
use Rattle.conf_resolve.specs.Indexed.{HavePorts}
use Rattle.conf_resolve.proofs.named_ports.NamedPorts.of.Given as goal

-- the interfaces so far
abbrev pub invariant-loop-port : goal.invariant-loop-port
invariant-loop-port l = HavePorts (take l.port-index l.dp.ports) l.numbers l.names
