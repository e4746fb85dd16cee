use Rattle.std.proofs.Common.{◌≡◌, map, take}
use Rattle.ctl_world.specs.declared.conns.Conn.{Conn}
use Rattle.ctl_life.proofs.silence.numbers.Given as goal

abbrev pub invariant-loop-conn : goal.invariant-loop-conn
invariant-loop-conn l = l.numbers.items ≡ map (λ (c : Conn). c.number) (take l.conn-index l.conns)
