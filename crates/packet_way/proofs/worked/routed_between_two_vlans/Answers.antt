use Rattle.std.proofs.Common.{refl}
use Rattle.packet_way.specs.Description.{from_edge, from_stack, admitted, in_vlan, by_routing, leaving}
use Rattle.packet_way.specs.Flood.{flooded}
use Rattle.packet_way.specs.Known.{onward}
use Rattle.packet_way.specs.Routes.{route_list, longest, routed}
use Rattle.packet_way.specs.Source.{heard}
use Rattle.stack_paths.specs.Chosen.{hop_of, hop_link, leads_nearer, distance_of, least_below, is_walk, is_tree_port, uplink_of, root_of}
use Rattle.packet_way.proofs.worked.routed_between_two_vlans.Goals as goal

pub returns : goal.returns
unfolding from_edge from_stack admitted in_vlan by_routing leaving flooded onward route_list longest routed heard hop_of hop_link leads_nearer distance_of least_below is_walk is_tree_port uplink_of root_of
returns c = record {
  no_hairpin = λ fit. refl;
  hairpin = λ fit. refl;
  two_hops = λ fit. refl;
  one_hop = λ fit. refl;
  no_hop = λ fit. refl;
  unresolved = λ fit. refl;
  ping = λ fit. refl;
  to_a_vip = λ fit. refl;
  no_prefix = λ fit. refl;
  arp_for_a_vip = λ fit. refl;
  arp_for_another = λ fit. refl;
  arp_to_the_gateway = λ fit. refl;
  other_type = λ fit. refl;
}
