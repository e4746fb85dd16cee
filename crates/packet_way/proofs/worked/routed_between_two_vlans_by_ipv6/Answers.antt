use Rattle.std.proofs.Common.{refl}
use Rattle.packet_way.specs.Description.{from_edge, from_stack, admitted, in_vlan, by_routing, leaving}
use Rattle.packet_way.specs.Flood.{flooded}
use Rattle.packet_way.specs.Known.{onward}
use Rattle.packet_way.specs.Routes.{route_list, longest, routed}
use Rattle.packet_way.specs.Source.{heard}
use Rattle.stack_paths.specs.Chosen.{hop_of, hop_link, leads_nearer, distance_of, least_below, is_walk, is_tree_port, uplink_of, root_of}
use Rattle.packet_way.proofs.worked.routed_between_two_vlans_by_ipv6.Goals as goal

pub returns : goal.returns
unfolding from_edge from_stack admitted in_vlan by_routing leaving flooded onward route_list longest routed heard hop_of hop_link leads_nearer distance_of least_below is_walk is_tree_port uplink_of root_of
returns c = record {
  hairpin = λ fit. refl;
  one_hop = λ fit. refl;
  unresolved = λ fit. refl;
  link_local = λ fit. refl;
  vip_of_another_link = λ fit. refl;
  ping = λ fit. refl;
  advertised = λ fit. refl;
  other_message = λ fit. refl;
  to_a_vip = λ fit. refl;
  no_prefix = λ fit. refl;
  solicited = λ fit. refl;
  solicited_for_another = λ fit. refl;
  solicited_at_the_gateway = λ fit. refl;
  another_at_the_gateway = λ fit. refl;
  no_destination = λ fit. refl;
}
