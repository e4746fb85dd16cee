use Rattle.std.proofs.Common.{◌≡◌, drop}
use Rattle.ctl_settle.specs.Settling.{ask_by_each}
use Rattle.ctl_settle.proofs.asking.ask_by_each.Given as goal

-- what is left to ask completes the whole
abbrev pub invariant-loop-dp : goal.invariant-loop-dp
invariant-loop-dp l = ask_by_each l.group l.vid l.ip (drop l.dp-index l.dps) l.world ≡ ask_by_each l.group l.vid l.ip l.dps l.fn.world
