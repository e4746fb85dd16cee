use Rattle.std.proofs.Common.{◌≡◌, drop}
use Rattle.ctl_core.specs.Reloading.{want_each}
use Rattle.ctl_core.proofs.reloading.want_each.Given as goal

-- what is left to do completes the whole
abbrev pub invariant-loop-group : goal.invariant-loop-group
invariant-loop-group l = want_each (drop l.group-index l.groups) l.world ≡ want_each l.groups l.fn.world
