use Rattle.std.proofs.Common.{refl}
use Rattle.packet_way.specs.Description.{from_edge, from_stack, admitted, in_vlan, by_routing, leaving}
use Rattle.packet_way.specs.Flood.{flooded}
use Rattle.packet_way.specs.Known.{onward}
use Rattle.packet_way.specs.Routes.{route_list, longest, routed}
use Rattle.packet_way.specs.Source.{heard}
use Rattle.stack_paths.specs.Chosen.{hop_of, hop_link, leads_nearer, distance_of, least_below, is_walk, is_tree_port, uplink_of, root_of}
use Rattle.packet_way.proofs.worked.drops_and_floods_by_settings.Goals as goal

pub returns : goal.returns
unfolding from_edge from_stack admitted in_vlan by_routing leaving flooded onward route_list longest routed heard hop_of hop_link leads_nearer distance_of least_below is_walk is_tree_port uplink_of root_of
returns c = record {
  gateway = refl;
  broadcast = refl;
  bridges = refl;
  cisco_bridges = refl;
  lldp = refl;
  no_drop = refl;
  no_flood = refl;
  no_flood_by_port = refl;
  group = refl;
  hairpin = refl;
  disabled = refl;
  output_only = refl;
}
