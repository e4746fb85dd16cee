use Rattle.std.proofs.Common.{◌≡◌, ◌++◌, take}
use Rattle.std.specs.List.{filter_map}
use Rattle.packet_way.specs.Routes.{route_item}
use Rattle.packet_way.proofs.routes.push_routes.Given as goal

-- those of the routes so far
abbrev pub invariant-loop-route : goal.invariant-loop-route
invariant-loop-route l = l.out ≡ l.fn.out ++ filter_map (route_item l.neighbours l.group l.vlan) (take l.route-index l.route-items)
