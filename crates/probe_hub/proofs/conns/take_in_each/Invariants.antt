use Rattle.std.proofs.Common.{◌≡◌, ◌++◌, map, take, drop}
use Rattle.probe_hub.specs.Conn.{taken_in}
use Rattle.probe_hub.proofs.conns.take_in_each.Given as goal

abbrev pub invariant-loop-conn : goal.invariant-loop-conn
invariant-loop-conn l = l.conns ≡ map (taken_in l.links l.moment) (take l.conn-index l.initial.conns) ++ drop l.conn-index l.initial.conns
