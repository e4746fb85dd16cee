-- The keys of a configuration, a table for each kind of map, in the order of the reference.
use Rattle.std.specs.Prelude.{ℕ, ◌-◌, ◌^◌, List, [], ◌∷◌, map, codes, Option, Some, None}
use Rattle.std.specs.List.{filter_map}
use Rattle.std.specs.Option.{option_map}
use Rattle.std.specs.Borrow.{Bor}
use Rattle.net_base.specs.declared.field.FieldId.{FieldId}
use Rattle.net_base.specs.declared.field.FieldId.TheVariants.{EthDst, EthSrc, EthType, VlanVid, VlanPcp, IpProto, Ipv4Src, Ipv4Dst, TcpSrc, TcpDst, UdpSrc, UdpDst, Icmpv4Type, Icmpv4Code, ArpOp, ArpSpa, ArpTpa, Ipv6Src, Ipv6Dst, Icmpv6Type, Icmpv6Code, Ipv6NdTarget}
use Rattle.conf_shape.specs.declared.refused.ConfCause.{ConfCause}
use Rattle.conf_shape.specs.declared.refused.ConfCause.TheVariants.{UnknownKey, LeftOut}
use Rattle.conf_shape.specs.declared.kinds.Kind.{Kind}
use Rattle.conf_shape.specs.declared.kinds.Kind.TheVariants.{One, Several, OneOrSeveral, Given, Asked, Map, Maps, MapOrMaps}
use Rattle.conf_shape.specs.declared.kinds.Scalar.TheVariants.{Flag, Number, Name, Words, Label, Permission, NoEffect, StationMac, Vip, Destination, Gateway, Identifier, Passive}
use Rattle.conf_shape.specs.declared.kinds.TheConstants.{MOST_VID, MOST_PORT_NO, VLAN_NAMED, PORT_NAMED}
use Rattle.conf_shape.specs.declared.kinds.MapKind.{MapKind}
use Rattle.conf_shape.specs.declared.kinds.MapKind.TheVariants.{Top, Datapaths, Datapath, DatapathStack, LldpBeacon, Interfaces, Interface, PortStack, Vlans, Vlan, RouteItem, Route, Acls, RuleItem, Rule, Actions, Output, Routers, Router, Bgp}
use Rattle.conf_shape.specs.declared.kinds.Need.{Need}
use Rattle.conf_shape.specs.declared.kinds.Need.TheVariants.{Always, UnlessNumbered, UnlessBgp, Never}
use Rattle.conf_shape.specs.declared.kinds.DefaultValue.{DefaultValue}
use Rattle.conf_shape.specs.declared.kinds.DefaultValue.TheVariants as defaults
use Rattle.conf_shape.specs.declared.tables.Row.{Row}
use Rattle.conf_shape.specs.declared.tables.Table.{Table}

-- what stands where a key isn't given: nothing, a flag, a number, a text, the map's own key, or its name
pub data KeyDefault : Type 0 where
  Nothing : KeyDefault
  On : KeyDefault
  Off : KeyDefault
  Count : ℕ → KeyDefault
  Spelled : List ℕ → KeyDefault
  OwnKey : KeyDefault
  OwnName : KeyDefault

-- a key that is read, what its value has to be, whether it has to be there, and its default
pub record KeyRow : Type 0 where
  pub key : List ℕ
  pub kind : Kind
  pub need : Need
  pub default : KeyDefault

-- the keys of a map: those that are read, those that are left out, other spellings with their keys, and
-- what is wrong with any other
pub record Keys : Type 0 where
  pub rows : List KeyRow
  pub left_out : List (List ℕ)
  pub spellings : List (List ℕ × List ℕ)
  pub unlisted : ConfCause

abbrev pub row : List ℕ → Kind → Need → KeyDefault → KeyRow
row key kind need default = record { key = key; kind = kind; need = need; default = default }

-- the keys of a map with no other spellings, which knows no key that stands nowhere here
abbrev pub keys : List KeyRow → List (List ℕ) → Keys
keys rows left_out = record { rows = rows; left_out = left_out; spellings = []; unlisted = UnknownKey }

abbrev pub top_keys : Keys
top_keys = keys
    (row (codes "dps") (Map Datapaths) Always Nothing ∷
    row (codes "vlans") (Map Vlans) Never Nothing ∷
    row (codes "acls") (Map Acls) Never Nothing ∷
    row (codes "routers") (Map Routers) Never Nothing ∷
    row (codes "version") (One (Number 2 2)) Never Nothing ∷ [])
    (codes "include" ∷ codes "include-optional" ∷ codes "meters" ∷ [])

abbrev pub datapath_keys : Keys
datapath_keys = keys
    (row (codes "dp_id") (One (Number 0 (2 ^ 64 - 1))) Always Nothing ∷
    row (codes "interfaces") (Map Interfaces) Always Nothing ∷
    row (codes "name") (One Name) Never OwnKey ∷
    row (codes "description") (One Name) Never OwnName ∷
    row (codes "hardware") (One Words) Never (Spelled (codes "Open vSwitch")) ∷
    row (codes "timeout") (One (Number 1 604800)) Never (Count 300) ∷
    row (codes "arp_neighbor_timeout") (One (Number 1 604800)) Never (Count 30) ∷
    row (codes "stack") (Map DatapathStack) Never Nothing ∷
    row (codes "drop_spoofed_faucet_mac") (One Flag) Never On ∷
    row (codes "drop_broadcast_source_address") (One Flag) Never On ∷
    row (codes "drop_bpdu") (One Flag) Never On ∷
    row (codes "drop_lldp") (One Flag) Never On ∷
    row (codes "lldp_beacon") (Map LldpBeacon) Never Nothing ∷
    row (codes "learn_ban_timeout") (One NoEffect) Never Nothing ∷
    row (codes "learn_jitter") (One NoEffect) Never Nothing ∷
    row (codes "ignore_learn_ins") (One NoEffect) Never Nothing ∷
    row (codes "packetin_pps") (One NoEffect) Never Nothing ∷
    row (codes "slowpath_pps") (One NoEffect) Never Nothing ∷
    row (codes "max_resolve_backoff_time") (One NoEffect) Never Nothing ∷
    row (codes "max_host_fib_retry_count") (One NoEffect) Never Nothing ∷
    row (codes "max_hosts_per_resolve_cycle") (One NoEffect) Never Nothing ∷
    row (codes "metrics_rate_limit_sec") (One NoEffect) Never Nothing ∷
    row (codes "ofchannel_log") (One NoEffect) Never Nothing ∷
    row (codes "combinatorial_port_flood") (One NoEffect) Never Nothing ∷
    row (codes "cache_update_guard_time") (One NoEffect) Never Nothing ∷ [])
    (codes "interface_ranges" ∷ codes "dot1x" ∷ codes "egress_pipeline" ∷
    codes "group_table" ∷ codes "use_idle_timeout" ∷ codes "priority_offset" ∷ codes "low_priority" ∷
    codes "high_priority" ∷ codes "lowest_priority" ∷ codes "highest_priority" ∷ codes "proactive_learn_v4" ∷
    codes "proactive_learn_v6" ∷ codes "nd_neighbor_timeout" ∷ codes "idle_dst" ∷ codes "dp_acls" ∷
    codes "global_vlan" ∷ codes "strict_packet_in_cookie" ∷ codes "multi_out" ∷ codes "advertise_interval" ∷
    codes "table_sizes" ∷ codes "use_classification" ∷ codes "lacp_timeout" ∷ [])

abbrev pub datapath_stack_keys : Keys
datapath_stack_keys = record {
  rows =
      row (codes "priority") (One (Number 0 (2 ^ 32 - 1))) Never Nothing ∷
      [];
  left_out =
      [];
  spellings =
      [];
  unlisted = LeftOut;
}

-- how many probes may be sent at once has no effect, since each stack port is probed once at a time
abbrev pub lldp_beacon_keys : Keys
lldp_beacon_keys = record {
  rows =
      row (codes "send_interval") (One (Number 1 300)) Never (Count 5) ∷
      row (codes "max_per_interval") (One (Number 1 1024)) Never Nothing ∷
      [];
  left_out =
      [];
  spellings =
      [];
  unlisted = LeftOut;
}

abbrev pub interface_keys : Keys
interface_keys = keys
    (row (codes "number") (Given 1 MOST_PORT_NO) UnlessNumbered OwnKey ∷
    row (codes "name") (One Name) Never OwnKey ∷
    row (codes "description") (One Name) Never OwnName ∷
    row (codes "enabled") (One Flag) Never On ∷
    row (codes "unicast_flood") (One Flag) Never On ∷
    row (codes "opstatus_reconf") (One Flag) Never On ∷
    row (codes "output_only") (One Flag) Never Off ∷
    row (codes "hairpin") (One Flag) Never Off ∷
    row (codes "permanent_learn") (One Flag) Never Off ∷
    row (codes "native_vlan") (One VLAN_NAMED) Never Nothing ∷
    row (codes "tagged_vlans") (Several VLAN_NAMED) Never Nothing ∷
    row (codes "acl_in") (One Label) Never Nothing ∷
    row (codes "acls_in") (Several Label) Never Nothing ∷
    row (codes "max_hosts") (One (Number 1 16384)) Never (Count 255) ∷
    row (codes "mirror") (OneOrSeveral PORT_NAMED) Never Nothing ∷
    row (codes "stack") (Map PortStack) Never Nothing ∷ [])
    (codes "acls_out" ∷ codes "dot1x" ∷ codes "dot1x_acl" ∷ codes "dot1x_mab" ∷ codes "lacp" ∷
    codes "lacp_active" ∷ codes "lldp_beacon" ∷ codes "receive_lldp" ∷ codes "loop_protect" ∷
    codes "loop_protect_external" ∷ codes "override_output_port" ∷ codes "restricted_bcast_arpnd" ∷
    codes "coprocessor" ∷ [])

abbrev pub port_stack_keys : Keys
port_stack_keys = keys
    (row (codes "dp") (One Words) Always Nothing ∷
    row (codes "port") (One PORT_NAMED) Always Nothing ∷ [])
    []

abbrev pub vlan_keys : Keys
vlan_keys = keys
    (row (codes "vid") (Given 1 MOST_VID) UnlessNumbered OwnKey ∷
    row (codes "name") (One Name) Never OwnKey ∷
    row (codes "description") (One Name) Never OwnName ∷
    row (codes "acl_in") (One Label) Never Nothing ∷
    row (codes "acls_in") (Several Label) Never Nothing ∷
    row (codes "faucet_mac") (One StationMac) Never (Spelled (codes "0e:00:00:00:00:01")) ∷
    row (codes "faucet_vips") (Several Vip) Never Nothing ∷
    row (codes "routes") (Maps RouteItem) Never Nothing ∷
    row (codes "max_hosts") (One (Number 1 16384)) Never (Count 255) ∷
    row (codes "unicast_flood") (One Flag) Never On ∷ [])
    (codes "acls_out" ∷ codes "targeted_gw_resolution" ∷ codes "minimum_ip_size_check" ∷
    codes "proactive_arp_limit" ∷ codes "proactive_nd_limit" ∷ [])

abbrev pub route_item_keys : Keys
route_item_keys = keys
    (row (codes "route") (Map Route) Always Nothing ∷ [])
    []

abbrev pub route_keys : Keys
route_keys = keys
    (row (codes "ip_dst") (One Destination) Always Nothing ∷
    row (codes "ip_gw") (One Gateway) Always Nothing ∷ [])
    []

abbrev pub rule_item_keys : Keys
rule_item_keys = keys
    (row (codes "rule") (Map Rule) Always Nothing ∷ [])
    []

abbrev pub rule_keys : Keys
rule_keys = record {
  rows =
      row (codes "actions") (Map Actions) Always Nothing ∷
      row (codes "description") (One Words) Never Nothing ∷
      row (codes "eth_src") (Asked EthSrc) Never Nothing ∷
      row (codes "eth_dst") (Asked EthDst) Never Nothing ∷
      row (codes "eth_type") (Asked EthType) Never Nothing ∷
      row (codes "vlan_vid") (Asked VlanVid) Never Nothing ∷
      row (codes "vlan_pcp") (Asked VlanPcp) Never Nothing ∷
      row (codes "ip_proto") (Asked IpProto) Never Nothing ∷
      row (codes "ipv4_src") (Asked Ipv4Src) Never Nothing ∷
      row (codes "ipv4_dst") (Asked Ipv4Dst) Never Nothing ∷
      row (codes "tcp_src") (Asked TcpSrc) Never Nothing ∷
      row (codes "tcp_dst") (Asked TcpDst) Never Nothing ∷
      row (codes "udp_src") (Asked UdpSrc) Never Nothing ∷
      row (codes "udp_dst") (Asked UdpDst) Never Nothing ∷
      row (codes "icmpv4_type") (Asked Icmpv4Type) Never Nothing ∷
      row (codes "icmpv4_code") (Asked Icmpv4Code) Never Nothing ∷
      row (codes "arp_op") (Asked ArpOp) Never Nothing ∷
      row (codes "arp_spa") (Asked ArpSpa) Never Nothing ∷
      row (codes "arp_tpa") (Asked ArpTpa) Never Nothing ∷
      row (codes "ipv6_src") (Asked Ipv6Src) Never Nothing ∷
      row (codes "ipv6_dst") (Asked Ipv6Dst) Never Nothing ∷
      row (codes "icmpv6_type") (Asked Icmpv6Type) Never Nothing ∷
      row (codes "icmpv6_code") (Asked Icmpv6Code) Never Nothing ∷
      row (codes "ipv6_nd_target") (Asked Ipv6NdTarget) Never Nothing ∷
      [];
  left_out =
      codes "cookie" ∷ codes "in_port" ∷ codes "ip_dscp" ∷ codes "ip_ecn" ∷ [];
  spellings =
      (codes "dl_src", codes "eth_src") ∷ (codes "dl_dst", codes "eth_dst") ∷
      (codes "dl_type", codes "eth_type") ∷ (codes "dl_vlan", codes "vlan_vid") ∷
      (codes "dl_vlan_pcp", codes "vlan_pcp") ∷ (codes "nw_proto", codes "ip_proto") ∷
      (codes "nw_src", codes "ipv4_src") ∷ (codes "nw_dst", codes "ipv4_dst") ∷ [];
  unlisted = UnknownKey;
}

abbrev pub actions_keys : Keys
actions_keys = keys
    (row (codes "allow") (One Permission) Never Off ∷
    row (codes "mirror") (One PORT_NAMED) Never Nothing ∷
    row (codes "output") (MapOrMaps Output) Never Nothing ∷ [])
    (codes "meter" ∷ codes "ct" ∷ codes "force_port_vlan" ∷ [])

abbrev pub output_keys : Keys
output_keys = keys
    (row (codes "port") (One PORT_NAMED) Never Nothing ∷
    row (codes "ports") (Several PORT_NAMED) Never Nothing ∷ [])
    (codes "set_fields" ∷ codes "vlan_vid" ∷ codes "vlan_vids" ∷ codes "pop_vlans" ∷ codes "swap_vid" ∷
    codes "failover" ∷ codes "tunnel" ∷ [])

abbrev pub router_keys : Keys
router_keys = keys
    (row (codes "vlans") (Several VLAN_NAMED) UnlessBgp Nothing ∷
    row (codes "bgp") (Map Bgp) Never Nothing ∷ [])
    []

-- the peer's addresses and port and who connects have no effect: the one peer is passive
abbrev pub bgp_keys : Keys
bgp_keys = keys
    (row (codes "as") (One (Number 1 65535)) Always Nothing ∷
    row (codes "neighbor_as") (One (Number 1 65535)) Always Nothing ∷
    row (codes "neighbor_addresses") (Several Words) Always Nothing ∷
    row (codes "server_addresses") (Several Words) Always Nothing ∷
    row (codes "routerid") (One Identifier) Always Nothing ∷
    row (codes "vlan") (One VLAN_NAMED) Always Nothing ∷
    row (codes "port") (One (Number 1 65535)) Never Nothing ∷
    row (codes "connect_mode") (One Passive) Never Nothing ∷ [])
    []

-- a map whose keys are names or numbers of the user's
abbrev pub no_keys : Keys
no_keys = keys [] []

abbrev pub keys_of : MapKind → Keys
keys_of Top = top_keys
keys_of Datapath = datapath_keys
keys_of DatapathStack = datapath_stack_keys
keys_of LldpBeacon = lldp_beacon_keys
keys_of (Interface number) = interface_keys
keys_of PortStack = port_stack_keys
keys_of (Vlan number) = vlan_keys
keys_of RouteItem = route_item_keys
keys_of Route = route_keys
keys_of RuleItem = rule_item_keys
keys_of Rule = rule_keys
keys_of Actions = actions_keys
keys_of Output = output_keys
keys_of Router = router_keys
keys_of Bgp = bgp_keys
keys_of Datapaths = no_keys
keys_of Interfaces = no_keys
keys_of Vlans = no_keys
keys_of Acls = no_keys
keys_of Routers = no_keys

-- the code's tables as these
abbrev pub seen_default : DefaultValue → KeyDefault
seen_default defaults.Nothing = Nothing
seen_default defaults.On = On
seen_default defaults.Off = Off
seen_default (defaults.Count n) = Count n
seen_default (defaults.Spelled text) = Spelled text.now
seen_default defaults.OwnKey = OwnKey
seen_default defaults.OwnName = OwnName

abbrev pub seen_row : Row → KeyRow
seen_row r = record { key = r.key.now; kind = r.kind; need = r.need; default = seen_default r.default }

abbrev pub seen_pair : Bor (List ℕ) × Bor (List ℕ) → List ℕ × List ℕ
seen_pair p = (p.0.now, p.1.now)

abbrev pub seen_table : Table → Keys
seen_table t = record {
  rows = map seen_row t.rows.now;
  left_out = map (λ name. name.now) t.left_out.now;
  spellings = map seen_pair t.spellings.now;
  unlisted = t.unlisted;
}

-- ---- match keys

abbrev pub asked_of : Kind → Option FieldId
asked_of (Asked id) = Some id
asked_of _ = None

abbrev pub match_key : KeyRow → Option (List ℕ × FieldId)
match_key r = option_map (λ id. (r.key, id)) (asked_of r.kind)

abbrev pub match_keys_of : List KeyRow → List (List ℕ × FieldId)
match_keys_of rows = filter_map match_key rows

-- the match keys of a rule, in the order of the reference, with their fields
abbrev pub match_keys : List (List ℕ × FieldId)
match_keys = match_keys_of rule_keys.rows
