use Rattle.std.proofs.Common.{refl}
use Rattle.net_base.specs.AddressReading.{pair_at, next_at, spelled_mac, number_of, number_up_to, ip4_of, net4_of}
use Rattle.law_rules.proofs.keys.match_keys_give_the_fields_of_the_standard.Goals as goal

pub returns : goal.returns
unfolding pair_at next_at spelled_mac number_of number_up_to ip4_of net4_of
returns c = record {
  eth_dst = λ t is. rw is refl;
  eth_src = λ t is. rw is refl;
  eth_type = λ t is. rw is refl;
  vlan_vid = λ t is. rw is refl;
  vlan_pcp = λ t is. rw is refl;
  ip_proto = λ t is. rw is refl;
  ipv4_src = λ t is. rw is refl;
  ipv4_dst = λ t is. rw is refl;
  tcp_src = λ t is. rw is refl;
  tcp_dst = λ t is. rw is refl;
  udp_src = λ t is. rw is refl;
  udp_dst = λ t is. rw is refl;
  icmpv4_type = λ t is. rw is refl;
  icmpv4_code = λ t is. rw is refl;
  arp_op = λ t is. rw is refl;
  arp_spa = λ t is. rw is refl;
  arp_tpa = λ t is. rw is refl;
}
