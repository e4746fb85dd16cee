-- What the parts of a configuration in order stand for: names as numbers. A name that nothing has stands for
-- nothing in a list of VLANs, for no peer as the VLAN of a BGP peer, and for the interface itself as a mirrored
-- port or the far end of a stack link.
use Rattle.std.specs.Prelude.{ℕ, ◌==◌, Bool, if◌then◌else◌, List, [], ◌∷◌, ◌++◌, map, nat_lt, Option, Some, None, option_and_then, unwrap_or}
use Rattle.std.specs.List.{find, filter_map, flat_map}
use Rattle.std.specs.Option.{option_map, option_map_or}
use Rattle.net_base.specs.FieldId.{number_of}
use Rattle.conf_types.specs.declared.acl.Acl.{Acl}
use Rattle.conf_types.specs.declared.acl.PortRef.{PortRef}
use Rattle.conf_types.specs.declared.acl.PortRef.TheVariants as port_ref
use Rattle.conf_types.specs.declared.acl.Rule.{Rule}
use Rattle.conf_types.specs.declared.datapath.Dp.{Dp}
use Rattle.conf_types.specs.declared.datapath.Port.{Port}
use Rattle.conf_types.specs.declared.datapath.StackEnd.{StackEnd}
use Rattle.conf_types.specs.declared.peer.BgpConf.{BgpConf}
use Rattle.conf_types.specs.declared.vlan.Router.{Router}
use Rattle.conf_types.specs.declared.vlan.Vlan.{Vlan}
use Rattle.conf_types.specs.Configuration.{Configuration}
use Rattle.conf_types.specs.Lists.{is_among, is_same}
use Rattle.conf_shape.specs.declared.raw.VlanRef.{VlanRef}
use Rattle.conf_shape.specs.declared.raw.VlanRef.TheVariants as vlan_ref
use Rattle.conf_shape.specs.declared.raw.OneOrList.{OneOrList}
use Rattle.conf_shape.specs.declared.raw.OneOrList.TheVariants as several
use Rattle.conf_shape.specs.declared.raw.RawAclNames.{RawAclNames}
use Rattle.conf_shape.specs.declared.raw.RawStackEnd.{RawStackEnd}
use Rattle.conf_shape.specs.declared.raw.RawPort.{RawPort}
use Rattle.conf_shape.specs.declared.raw.RawDp.{RawDp}
use Rattle.conf_shape.specs.declared.raw.RawVlan.{RawVlan}
use Rattle.conf_shape.specs.declared.raw.RawOutput.{RawOutput}
use Rattle.conf_shape.specs.declared.raw.RawRule.{RawRule}
use Rattle.conf_shape.specs.declared.raw.RawAcl.{RawAcl}
use Rattle.conf_shape.specs.declared.raw.RawBgp.{RawBgp}
use Rattle.conf_shape.specs.declared.raw.RawRouter.{RawRouter}
use Rattle.conf_resolve.specs.declared.ordered.PlacedVlan.{PlacedVlan}
use Rattle.conf_resolve.specs.declared.ordered.OrderedConf.{OrderedConf}
use Rattle.conf_resolve.specs.InOrder.{in_order}

abbrev pub to_list : {A : Type 0} → Option A → List A
to_list None = []
to_list (Some x) = x ∷ []

abbrev pub items_of : {A : Type 0} → OneOrList A → List A
items_of (several.One x) = x ∷ []
items_of (several.List xs) = xs

-- those that aren't among these, each at its first place
abbrev pub new_ones : List ℕ → List ℕ → List ℕ
new_ones seen [] = []
new_ones seen (n ∷ ns) = if is_among seen n then new_ones seen ns else n ∷ new_ones (n ∷ seen) ns

-- each at its first place
abbrev pub once : List ℕ → List ℕ
once ns = new_ones [] ns

-- ---- names

-- the number of the VLAN that is named: a number is its own, whether or not a VLAN is written
abbrev pub vid_of : List PlacedVlan → VlanRef → Option ℕ
vid_of vlans (vlan_ref.Vid vid) = Some vid
vid_of vlans (vlan_ref.Name name) = option_map (λ v. v.vlan.vid) (find (λ v. is_same v.vlan.names.name name) vlans)

abbrev pub is_called : PortRef → RawPort → Bool
is_called (port_ref.No number) p = p.no == number
is_called (port_ref.Name name) p = is_same p.names.name name

-- the number of the interface of a datapath that is named
abbrev pub number_named : RawDp → PortRef → Option ℕ
number_named d name = option_map (λ p. p.no) (find (is_called name) d.ports)

-- the far end that is named
abbrev pub far_end : List RawDp → RawStackEnd → Option StackEnd
far_end dps end =
    option_and_then (λ d. option_map (λ number. record { dp = d.id; port = number }) (number_named d end.port)) (find (λ d. is_same d.names.name end.dp) dps)

-- the names of ACLs, of `acl_in` where it is given
abbrev pub acl_names : RawAclNames → List (List ℕ)
acl_names acls = option_map_or (λ name. name ∷ []) acls.one (unwrap_or acls.list [])

-- ---- each part

abbrev pub port_of : OrderedConf → RawDp → RawPort → Port
port_of conf d p = record {
  no = p.no;
  name = p.names.name;
  description = p.names.description;
  enabled = p.flags.enabled;
  native = option_and_then (vid_of conf.vlans) p.native;
  tagged = filter_map (vid_of conf.vlans) p.tagged;
  acls = acl_names p.acls;
  output_only = p.flags.output_only;
  hairpin = p.flags.hairpin;
  unicast_flood = p.flags.unicast_flood;
  permanent_learn = p.flags.permanent_learn;
  opstatus_reconf = p.flags.opstatus_reconf;
  max_hosts = p.max_hosts;
  mirror = once (map (λ name. unwrap_or (number_named d name) p.no) (items_of p.mirror));
  stack = option_map (λ end. unwrap_or (far_end conf.dps end) (record { dp = d.id; port = p.no })) p.stack;
}

abbrev pub dp_of : OrderedConf → RawDp → Dp
dp_of conf d = record {
  id = d.id;
  name = d.names.name;
  description = d.names.description;
  hardware = d.hardware;
  timeout = d.timeout;
  arp_timeout = d.arp_timeout;
  stack_priority = d.stack_priority;
  lldp = d.lldp;
  drop_spoofed = d.drops.spoofed;
  drop_broadcast = d.drops.broadcast;
  drop_bpdu = d.drops.bpdu;
  drop_lldp = d.drops.lldp;
  ports = map (port_of conf d) d.ports;
}

abbrev pub vlan_of : RawVlan → Vlan
vlan_of v = record {
  vid = v.vid;
  name = v.names.name;
  description = v.names.description;
  mac = v.mac;
  vips = v.vips;
  routes = v.routes;
  acls = acl_names v.acls;
  max_hosts = v.max_hosts;
  unicast_flood = v.unicast_flood;
}

-- `port` before `ports`
abbrev pub ports_of : RawOutput → List PortRef
ports_of output = to_list output.port ++ output.ports

-- the fields by their numbers
abbrev pub rule_of : RawRule → Rule
rule_of r = record {
  fields = in_order (λ f g. nat_lt (number_of f.id) (number_of g.id)) (map (λ f. f.field) r.fields);
  allow = r.allow;
  output = flat_map ports_of (items_of r.output);
  mirror = to_list r.mirror;
}

abbrev pub acl_of : RawAcl → Acl
acl_of a = record { name = a.name; rules = map rule_of a.rules }

abbrev pub peer_in : RawBgp → (vid : ℕ) → BgpConf
peer_in bgp vid = record { our_as = bgp.our_as; neighbor_as = bgp.neighbor_as; routerid = bgp.routerid; vlan = vid }

abbrev pub peer_of : OrderedConf → RawBgp → Option BgpConf
peer_of conf bgp = option_map (peer_in bgp) (vid_of conf.vlans bgp.vlan)

-- a VLAN that a router names twice counts once
abbrev pub router_of : OrderedConf → RawRouter → Router
router_of conf r = record {
  name = r.name;
  vlans = once (filter_map (vid_of conf.vlans) r.vlans);
  bgp = option_and_then (peer_of conf) r.bgp;
}

-- ---- the whole

abbrev pub resolved : OrderedConf → Configuration
resolved conf = record {
  dps = map (dp_of conf) conf.dps;
  vlans = map (λ v. vlan_of v.vlan) conf.vlans;
  acls = map acl_of conf.acls;
  routers = map (router_of conf) conf.routers;
}
