use Rattle.std.proofs.Common.{◌≡◌, filter, length}
use Rattle.ctl_world.specs.Ends.{is_reached}
use Rattle.ctl_world.proofs.ends.forget_neighbours.Given as goal

-- the neighbours that are reached are as they were
abbrev pub invariant-loop-neighbour : goal.invariant-loop-neighbour
invariant-loop-neighbour l = record l.neighbours { neighbours = filter (is_reached l.conf l.running) l.neighbours.neighbours } ≡ record l.initial.neighbours { neighbours = filter (is_reached l.conf l.running) l.initial.neighbours.neighbours }

abbrev pub decreases-loop-neighbour : goal.decreases-loop-neighbour
decreases-loop-neighbour l = length l.neighbours.neighbours
