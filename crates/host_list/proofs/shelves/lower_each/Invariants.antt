use Rattle.std.proofs.Common.{◌≡◌, ◌++◌, map, take, drop}
use Rattle.host_list.specs.Shelves.{lowered}
use Rattle.host_list.proofs.shelves.lower_each.Given as goal

abbrev pub invariant-loop-shelf : goal.invariant-loop-shelf
invariant-loop-shelf l = l.shelves ≡ map (lowered l.dp l.heard) (take l.shelf-index l.initial.shelves) ++ drop l.shelf-index l.initial.shelves
