use Rattle.std.proofs.Common.{◌∙◌, sym, ap}
use Rattle.std.specs.Option.{option_map}
use Rattle.conf_types.specs.Families.{width_of}
use Rattle.conf_types.proofs.Taken.{one_kept, none_kept}
use Rattle.packet_way.specs.Routes.{hop_item, neighbour_item}
use Rattle.packet_way.proofs.routes.push_neighbours.Goals as goal
use Rattle.packet_way.proofs.routes.push_neighbours.Goals.{in-Some+in_ok-push_neighbour, in_default}

-- an item, or none, is what the neighbour adds
pub loop-neighbour-preserved : goal.loop-neighbour-preserved
loop-neighbour-preserved c =
    let h = neighbour_item c.args.group c.args.vlan.now c.args.vips.now in
    let xs = c.args.neighbours.now in
    let make = hop_item c.args.vlan.now c.neighbour-item.result.ip (width_of c.neighbour-item.result.ip) in
    elim c.match-resolved.branch [
      | in-Some+in_ok-push_neighbour w ↦ w.out-is ∙ w.in_ok-push_neighbour.ensures
          ∙ one_kept h xs c.loop-neighbour.neighbour-index c.neighbour-item.result c.loop-neighbour-test.true c.neighbour-item.is c.args.out.now c.loop-neighbour.out c.loop-neighbour.invariant (make w.in-Some.mac) (ap (option_map make) (sym c.resolved.ensures ∙ w.in-Some.is))
      | in_default w ↦ w.out-is
          ∙ none_kept h xs c.loop-neighbour.neighbour-index c.neighbour-item.result c.loop-neighbour-test.true c.neighbour-item.is c.args.out.now c.loop-neighbour.out c.loop-neighbour.invariant (ap (option_map make) (sym c.resolved.ensures ∙ w.in_default.is))
    ]
