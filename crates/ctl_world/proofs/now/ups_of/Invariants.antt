use Rattle.std.proofs.Common.{◌≡◌, take}
use Rattle.std.specs.List.{flat_map}
use Rattle.ctl_world.specs.World.{ups_on}
use Rattle.ctl_world.proofs.now.ups_of.Given as goal

-- the interfaces of the datapaths so far
abbrev pub invariant-loop-dp : goal.invariant-loop-dp
invariant-loop-dp l = l.ups ≡ flat_map (ups_on l.conns) (take l.dp-index l.dps)
