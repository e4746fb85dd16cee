use Rattle.std.proofs.Common.{◌≡◌, ◌++◌, map, take, drop}
use Rattle.probe_hub.specs.Conn.{losing_all}
use Rattle.probe_hub.proofs.conns.lose_each.Given as goal

abbrev pub invariant-loop-conn : goal.invariant-loop-conn
invariant-loop-conn l = l.conns ≡ map (losing_all l.moment l.ends) (take l.conn-index l.initial.conns) ++ drop l.conn-index l.initial.conns
