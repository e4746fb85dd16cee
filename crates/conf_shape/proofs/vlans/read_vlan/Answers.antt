use Rattle.conf_shape.proofs.vlans.read_vlan.Goals as goal

pub returns : goal.returns
returns c = λ i. record {
  names = c.in_ok-read_names.ensures i;
  has_vid = c.is_given.ensures i;
  vid = c.vlan_number.ensures i;
  acls = c.in_ok-read_acls.ensures i;
  mac = c.mac_at.ensures i;
  vips = c.in_ok-list_at.ensures i;
  routes = c.in_ok-list_at-2.ensures i;
  max_hosts = c.number_at.ensures i;
  unicast_flood = c.flag_at.ensures i;
}
