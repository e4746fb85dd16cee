use Rattle.std.proofs.Common.{◌≡◌, drop}
use Rattle.ctl_core.specs.Reloading.{close_each}
use Rattle.ctl_core.proofs.reloading.close_each.Given as goal

-- what is left to do completes the whole
abbrev pub invariant-loop-conn : goal.invariant-loop-conn
invariant-loop-conn l = close_each (drop l.conn-index l.conns) l.world ≡ close_each l.conns l.fn.world
