use Rattle.std.proofs.Common.{◌≡◌, ◌++◌, take, drop}
use Rattle.neighbour_resolve.specs.Table.{replaced, stays}
use Rattle.neighbour_resolve.proofs.table.replace.Given as goal

abbrev pub invariant-loop-neighbour : goal.invariant-loop-neighbour
invariant-loop-neighbour l =
    l.neighbours ≡ replaced (stays l.leave_resolved) l.told (take l.neighbour-index l.initial.neighbours) ++ drop l.neighbour-index l.initial.neighbours
