use Rattle.std.proofs.Common.{◌≡◌, ◌++◌, drop}
use Rattle.neighbour_resolve.specs.Kept.{last_of_each}
use Rattle.neighbour_resolve.proofs.kept.last_of_each.Given as goal

abbrev pub invariant-loop-at : goal.invariant-loop-at
invariant-loop-at l = l.last.items ++ last_of_each (drop l.at l.neighbours) ≡ last_of_each l.neighbours
