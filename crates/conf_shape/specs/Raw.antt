-- The raw configuration of a tree, key by key: what is written, and where a key isn't given its default by
-- the tables.
use Rattle.std.specs.Prelude.{ℕ, Bool, is_some, List, [], ◌∷◌, map, codes, Option, None, unwrap_or}
use Rattle.std.specs.Option.{option_map}
use Rattle.net_base.specs.declared.address.Mac.{Mac}
use Rattle.net_base.specs.declared.numbers.DpId.{DpId}
use Rattle.conf_types.specs.declared.acl.PortRef.TheVariants as port_refs
use Rattle.conf_types.specs.declared.address.Net.{Net}
use Rattle.conf_types.specs.declared.vlan.Route.{Route}
use Rattle.yaml_tree.specs.declared.tree.Key.{Key}
use Rattle.yaml_tree.specs.declared.tree.Pair.{Pair}
use Rattle.yaml_tree.specs.declared.tree.Tree.{Tree}
use Rattle.conf_shape.specs.declared.kinds.MapKind.TheVariants as kinds
use Rattle.conf_shape.specs.declared.kinds.TheConstants.{MOST_VID, MOST_PORT_NO}
use Rattle.conf_shape.specs.declared.kinds.MapKind.{MapKind}
use Rattle.conf_shape.specs.declared.raw.RawAclNames.{RawAclNames}
use Rattle.conf_shape.specs.declared.raw.RawNames.{RawNames}
use Rattle.conf_shape.specs.declared.raw.PortFlags.{PortFlags}
use Rattle.conf_shape.specs.declared.raw.DropFlags.{DropFlags}
use Rattle.conf_shape.specs.declared.raw.RawStackEnd.{RawStackEnd}
use Rattle.conf_shape.specs.declared.raw.RawPort.{RawPort}
use Rattle.conf_shape.specs.declared.raw.RawDp.{RawDp}
use Rattle.conf_shape.specs.declared.raw.RawVlan.{RawVlan}
use Rattle.conf_shape.specs.declared.raw.RawOutput.{RawOutput}
use Rattle.conf_shape.specs.declared.raw.RawRule.{RawRule}
use Rattle.conf_shape.specs.declared.raw.RawAcl.{RawAcl}
use Rattle.conf_shape.specs.declared.raw.RawBgp.{RawBgp}
use Rattle.conf_shape.specs.declared.raw.RawRouter.{RawRouter}
use Rattle.conf_shape.specs.declared.raw.VlanRef.TheVariants as vlan_refs
use Rattle.conf_shape.specs.declared.raw.RawConf.{RawConf}
use Rattle.conf_shape.specs.Keys.{keys_of, match_keys}
use Rattle.conf_shape.specs.Reads.{value_at, words_of, items_of, entries_of, words_at, entries_at, option_at, list_at, one_or_list_at, number_under, flag_at, permission_at, number_at, text_at, label_of, port_of, vlan_of, own_number}
use Rattle.conf_shape.specs.Sections.{key_text}
use Rattle.conf_shape.specs.Values.{mac_of, ip_of, net_of, identifier_of, fields_by}

abbrev pub is_given : List ℕ → List Pair → Bool
is_given name pairs = is_some (value_at name pairs)

abbrev pub acls_at : List Pair → RawAclNames
acls_at pairs = record {
  one = option_at label_of (codes "acl_in") pairs;
  list = option_at (λ t. map label_of (items_of t)) (codes "acls_in") pairs;
}

-- the name is the key, and the description the name, where they aren't given
abbrev pub names_by : MapKind → List ℕ → List Pair → RawNames
names_by m key pairs =
    let name = text_at m (codes "name") key pairs in
    record {
      key = key;
      has_name = is_given (codes "name") pairs;
      name = name;
      description = text_at m (codes "description") name pairs;
    }

-- ---- datapaths and interfaces

abbrev pub stack_end_of : Tree → RawStackEnd
stack_end_of t = let pairs = entries_of t in record {
  dp = words_at (codes "dp") pairs;
  port = unwrap_or (option_at port_of (codes "port") pairs) (port_refs.Name []);
}

-- the flags of an interface: each key with its field, and what is made of a value for each key
abbrev pub port_flag_keys : List (List ℕ × (PortFlags → Bool))
port_flag_keys =
    (codes "enabled", λ flags. flags.enabled) ∷
    (codes "unicast_flood", λ flags. flags.unicast_flood) ∷
    (codes "opstatus_reconf", λ flags. flags.opstatus_reconf) ∷
    (codes "output_only", λ flags. flags.output_only) ∷
    (codes "hairpin", λ flags. flags.hairpin) ∷
    (codes "permanent_learn", λ flags. flags.permanent_learn) ∷
    []

abbrev pub port_flags_by : (List ℕ → Bool) → PortFlags
port_flags_by value = record {
  enabled = value (codes "enabled");
  unicast_flood = value (codes "unicast_flood");
  opstatus_reconf = value (codes "opstatus_reconf");
  output_only = value (codes "output_only");
  hairpin = value (codes "hairpin");
  permanent_learn = value (codes "permanent_learn");
}

abbrev pub port_flags : List Pair → PortFlags
port_flags pairs = port_flags_by (λ name. flag_at (kinds.Interface None) name pairs)

-- the number of an interface is its key, or else `number`
abbrev pub port_number : Key → List Pair → ℕ
port_number key pairs = unwrap_or (own_number 1 MOST_PORT_NO key (value_at (codes "number") pairs)) 1

abbrev pub port_with : Key → List Pair → RawPort
port_with key pairs = record {
  names = names_by (kinds.Interface None) (key_text key) pairs;
  has_number = is_given (codes "number") pairs;
  no = port_number key pairs;
  flags = port_flags pairs;
  native = option_at vlan_of (codes "native_vlan") pairs;
  tagged = list_at vlan_of (codes "tagged_vlans") pairs;
  acls = acls_at pairs;
  max_hosts = number_at (kinds.Interface None) (codes "max_hosts") pairs;
  mirror = one_or_list_at port_of (codes "mirror") pairs;
  stack = option_at stack_end_of (codes "stack") pairs;
}

abbrev pub port_of_entry : Pair → RawPort
port_of_entry p = port_with p.key (entries_of p.value)

-- the flags of a datapath, in the same way
abbrev pub drop_flag_keys : List (List ℕ × (DropFlags → Bool))
drop_flag_keys =
    (codes "drop_spoofed_faucet_mac", λ flags. flags.spoofed) ∷
    (codes "drop_broadcast_source_address", λ flags. flags.broadcast) ∷
    (codes "drop_bpdu", λ flags. flags.bpdu) ∷
    (codes "drop_lldp", λ flags. flags.lldp) ∷
    []

abbrev pub drop_flags_by : (List ℕ → Bool) → DropFlags
drop_flags_by value = record {
  spoofed = value (codes "drop_spoofed_faucet_mac");
  broadcast = value (codes "drop_broadcast_source_address");
  bpdu = value (codes "drop_bpdu");
  lldp = value (codes "drop_lldp");
}

abbrev pub drop_flags : List Pair → DropFlags
drop_flags pairs = drop_flags_by (λ name. flag_at kinds.Datapath name pairs)

abbrev pub datapath_id : List Pair → DpId
datapath_id pairs = record { 0 = unwrap_or (number_under 64 (codes "dp_id") pairs) 0 }

abbrev pub stack_priority : List Pair → Option ℕ
stack_priority pairs = number_under 32 (codes "priority") (entries_at (codes "stack") pairs)

-- how often links are probed, where they are
abbrev pub lldp_interval : Tree → ℕ
lldp_interval t = number_at kinds.LldpBeacon (codes "send_interval") (entries_of t)

abbrev pub lldp : List Pair → Option ℕ
lldp pairs = option_map lldp_interval (value_at (codes "lldp_beacon") pairs)

abbrev pub datapath_with : Key → List Pair → RawDp
datapath_with key pairs = record {
  names = names_by kinds.Datapath (key_text key) pairs;
  id = datapath_id pairs;
  hardware = text_at kinds.Datapath (codes "hardware") [] pairs;
  timeout = number_at kinds.Datapath (codes "timeout") pairs;
  arp_timeout = number_at kinds.Datapath (codes "arp_neighbor_timeout") pairs;
  stack_priority = stack_priority pairs;
  lldp = lldp pairs;
  drops = drop_flags pairs;
  ports = map port_of_entry (entries_at (codes "interfaces") pairs);
}

abbrev pub datapath_of_entry : Pair → RawDp
datapath_of_entry p = datapath_with p.key (entries_of p.value)

-- ---- VLANs

abbrev pub vip_of : Tree → Net
vip_of t = net_of (words_of t)

abbrev pub route_of : Tree → Route
route_of t = let pairs = entries_at (codes "route") (entries_of t) in record {
  dst = net_of (words_at (codes "ip_dst") pairs);
  gw = ip_of (words_at (codes "ip_gw") pairs);
}

-- the identifier of a VLAN is its key, or else `vid`
abbrev pub vlan_number : Key → List Pair → ℕ
vlan_number key pairs = unwrap_or (own_number 1 MOST_VID key (value_at (codes "vid") pairs)) 1

abbrev pub mac_at : List Pair → Mac
mac_at pairs = mac_of (text_at (kinds.Vlan None) (codes "faucet_mac") [] pairs)

abbrev pub vlan_with : Key → List Pair → RawVlan
vlan_with key pairs = record {
  names = names_by (kinds.Vlan None) (key_text key) pairs;
  has_vid = is_given (codes "vid") pairs;
  vid = vlan_number key pairs;
  acls = acls_at pairs;
  mac = mac_at pairs;
  vips = list_at vip_of (codes "faucet_vips") pairs;
  routes = list_at route_of (codes "routes") pairs;
  max_hosts = number_at (kinds.Vlan None) (codes "max_hosts") pairs;
  unicast_flood = flag_at (kinds.Vlan None) (codes "unicast_flood") pairs;
}

abbrev pub vlan_of_entry : Pair → RawVlan
vlan_of_entry p = vlan_with p.key (entries_of p.value)

-- ---- ACLs and routers

abbrev pub output_of : Tree → RawOutput
output_of t = let pairs = entries_of t in record {
  port = option_at port_of (codes "port") pairs;
  ports = list_at port_of (codes "ports") pairs;
}

abbrev pub rule_with : List Pair → List Pair → RawRule
rule_with pairs actions = record {
  fields = fields_by (keys_of kinds.Rule).spellings match_keys pairs;
  allow = permission_at kinds.Actions (codes "allow") actions;
  mirror = option_at port_of (codes "mirror") actions;
  output = one_or_list_at output_of (codes "output") actions;
}

abbrev pub rule_of : Tree → RawRule
rule_of t = let pairs = entries_at (codes "rule") (entries_of t) in rule_with pairs (entries_at (codes "actions") pairs)

abbrev pub acl_of_entry : Pair → RawAcl
acl_of_entry p = record { name = key_text p.key; rules = map rule_of (items_of p.value) }

abbrev pub bgp_with : List Pair → RawBgp
bgp_with pairs = record {
  our_as = unwrap_or (number_under 16 (codes "as") pairs) 0;
  neighbor_as = unwrap_or (number_under 16 (codes "neighbor_as") pairs) 0;
  routerid = identifier_of (words_at (codes "routerid") pairs);
  vlan = unwrap_or (option_at vlan_of (codes "vlan") pairs) (vlan_refs.Name []);
}

abbrev pub bgp_of : Tree → RawBgp
bgp_of t = bgp_with (entries_of t)

abbrev pub router_with : Key → List Pair → RawRouter
router_with key pairs = record {
  name = key_text key;
  vlans = list_at vlan_of (codes "vlans") pairs;
  bgp = option_at bgp_of (codes "bgp") pairs;
}

abbrev pub router_of_entry : Pair → RawRouter
router_of_entry p = router_with p.key (entries_of p.value)

-- ---- the whole

abbrev pub raw_of : Tree → RawConf
raw_of t = let pairs = entries_of t in record {
  dps = map datapath_of_entry (entries_at (codes "dps") pairs);
  vlans = map vlan_of_entry (entries_at (codes "vlans") pairs);
  acls = map acl_of_entry (entries_at (codes "acls") pairs);
  routers = map router_of_entry (entries_at (codes "routers") pairs);
}
