use Rattle.std.proofs.Common.{◌≡◌, take}
use Rattle.std.specs.List.{flat_map}
use Rattle.opening_batch.specs.Opening.{ups_of}
use Rattle.opening_batch.proofs.opening.all_ups.Given as goal

-- the interfaces of the datapaths so far
abbrev pub invariant-loop-dp : goal.invariant-loop-dp
invariant-loop-dp l = l.ups ≡ flat_map ups_of (take l.dp-index l.dps)
