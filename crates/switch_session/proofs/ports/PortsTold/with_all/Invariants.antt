use Rattle.std.proofs.Common.{◌≡◌, drop}
use Rattle.switch_session.specs.Told.{tell_all}
use Rattle.switch_session.proofs.ports.PortsTold.with_all.Given as goal

abbrev pub invariant-loop-port : goal.invariant-loop-port
invariant-loop-port l = tell_all l.all (drop l.port-index l.ports) ≡ tell_all l.self l.ports
