use Rattle.std.proofs.Common.{refl}
use Rattle.net_base.specs.AddressReading.{pair_at, next_at, spelled_mac, number_of, number_up_to, ip4_of, net4_of}
use Rattle.law_rules.proofs.keys.older_names_give_the_same_fields.Goals as goal

pub returns : goal.returns
unfolding pair_at next_at spelled_mac number_of number_up_to ip4_of net4_of
returns c = record {
  dl_dst = λ t is. rw is refl;
  dl_src = λ t is. rw is refl;
  dl_type = λ t is. rw is refl;
  dl_vlan = λ t is. rw is refl;
  dl_vlan_pcp = λ t is. rw is refl;
  nw_proto = λ t is. rw is refl;
  nw_src = λ t is. rw is refl;
  nw_dst = λ t is. rw is refl;
}
