use Rattle.std.proofs.Common.{◌≡◌, false, take}
use Rattle.std.specs.List.{list_any}
use Rattle.neighbour_resolve.specs.Due.{is_due}
use Rattle.neighbour_resolve.proofs.table.due_place.Given as goal

-- none so far is due
abbrev pub invariant-loop-at : goal.invariant-loop-at
invariant-loop-at l = list_any (is_due l.now.0) (take l.at l.neighbours) ≡ false
