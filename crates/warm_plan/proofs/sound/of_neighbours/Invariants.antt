use Rattle.std.proofs.Common.{take}
use Rattle.warm_plan.specs.Kept.{HaveAddresses}
use Rattle.warm_plan.proofs.sound.of_neighbours.Given as goal

-- those so far
abbrev pub invariant-loop-neighbour : goal.invariant-loop-neighbour
invariant-loop-neighbour l = HaveAddresses (take l.neighbour-index l.neighbours)
