use Rattle.std.proofs.Common.{◌∙◌, sym, ap}
use Rattle.std.specs.Option.{option_map}
use Rattle.conf_types.specs.Families.{address_of, len_of}
use Rattle.conf_types.proofs.Taken.{one_kept, none_kept}
use Rattle.packet_way.specs.Routes.{hop_item, route_item}
use Rattle.packet_way.proofs.routes.push_routes.Goals as goal
use Rattle.packet_way.proofs.routes.push_routes.Goals.{in-Some+in_ok-push_route, in_default}

-- an item, or none, is what the route adds
pub loop-route-preserved : goal.loop-route-preserved
loop-route-preserved c =
    let h = route_item c.args.neighbours.now c.args.group c.args.vlan.now in
    let xs = c.as_slice-route-items.result.now in
    let make = hop_item c.args.vlan.now (address_of c.route-item.result.dst) (len_of c.route-item.result.dst) in
    elim c.match-mac_of_neighbour.branch [
      | in-Some+in_ok-push_route w ↦ w.out-is ∙ w.in_ok-push_route.ensures
          ∙ one_kept h xs c.loop-route.route-index c.route-item.result c.loop-route-test.true c.route-item.is c.args.out.now c.loop-route.out c.loop-route.invariant (make w.in-Some.mac) (ap (option_map make) (sym c.mac_of_neighbour.ensures ∙ w.in-Some.is))
      | in_default w ↦ w.out-is
          ∙ none_kept h xs c.loop-route.route-index c.route-item.result c.loop-route-test.true c.route-item.is c.args.out.now c.loop-route.out c.loop-route.invariant (ap (option_map make) (sym c.mac_of_neighbour.ensures ∙ w.in_default.is))
    ]
