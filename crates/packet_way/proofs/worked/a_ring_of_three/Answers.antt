use Rattle.std.proofs.Common.{refl}
use Rattle.packet_way.specs.Description.{from_edge, from_stack, admitted, in_vlan, by_routing, leaving}
use Rattle.packet_way.specs.Flood.{flooded}
use Rattle.packet_way.specs.Known.{onward}
use Rattle.packet_way.specs.Routes.{route_list, longest, routed}
use Rattle.packet_way.specs.Source.{heard}
use Rattle.stack_paths.specs.Chosen.{hop_of, hop_link, leads_nearer, distance_of, least_below, is_walk, is_tree_port, uplink_of, root_of}
use Rattle.packet_way.proofs.worked.a_ring_of_three.Goals as goal

pub returns : goal.returns
unfolding from_edge from_stack admitted in_vlan by_routing leaving flooded onward route_list longest routed heard hop_of hop_link leads_nearer distance_of least_below is_walk is_tree_port uplink_of root_of
returns c = record {
  near = refl;
  around = refl;
  through = refl;
  arrived = refl;
  flood = refl;
  flood_ends = refl;
  flood_goes_around = refl;
  no_tag = refl;
  no_vlan = refl;
  lldp = refl;
  lldp_with_a_tag = refl;
  lldp_at_an_edge = refl;
}
