use Rattle.std.proofs.Common.{◌≡◌, ◌++◌, take}
use Rattle.std.specs.List.{filter_map}
use Rattle.packet_way.specs.Routes.{neighbour_item}
use Rattle.packet_way.proofs.routes.push_neighbours.Given as goal

-- those of the neighbours so far
abbrev pub invariant-loop-neighbour : goal.invariant-loop-neighbour
invariant-loop-neighbour l = l.out ≡ l.fn.out ++ filter_map (neighbour_item l.group l.vlan l.vips) (take l.neighbour-index l.neighbours)
