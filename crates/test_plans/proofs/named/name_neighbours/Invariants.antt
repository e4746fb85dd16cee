use Rattle.std.proofs.Common.{◌≡◌, ◌++◌, take, map}
use Rattle.conf_types.specs.declared.change.Change.TheVariants as change
use Rattle.test_plans.proofs.named.name_neighbours.Given as goal

-- those so far
abbrev pub invariant-loop-neighbour : goal.invariant-loop-neighbour
invariant-loop-neighbour l = l.out ≡ l.fn.out ++ map (λ n. change.Neighbour n.group n.vid n.ip) (take l.neighbour-index l.neighbours)
