-- The keys of a configuration, one line a key: what its value has to be, whether it has to be there, and what
-- stands where it isn't written. Each kind of map has the lines of its keys, in the order of the reference.
use Rattle.std.specs.Prelude.{ℕ, List, [], ◌∷◌, codes}
use Rattle.conf_shape.specs.declared.kinds.Kind.{Kind}
use Rattle.conf_shape.specs.declared.kinds.Kind.TheVariants.{One, Several, OneOrSeveral, Given, Map, Maps, MapOrMaps}
use Rattle.conf_shape.specs.declared.kinds.MapKind.{MapKind}
use Rattle.conf_shape.specs.declared.kinds.MapKind.TheVariants.{Top, Datapaths, Datapath, DatapathStack, LldpBeacon, Interfaces, Interface, PortStack, Vlans, Vlan, RouteItem, Route, Acls, RuleItem, Rule, Actions, Output, Routers, Router, Bgp}
use Rattle.conf_shape.specs.declared.kinds.Need.{Need}
use Rattle.conf_shape.specs.declared.kinds.Need.TheVariants.{Always, UnlessNumbered, UnlessBgp, Never}
use Rattle.conf_shape.specs.declared.kinds.Scalar.TheVariants.{Flag, Number, Name, Words, Label, Reference, Permission, NoEffect, StationMac, MaskedMac, Vip, Destination, Gateway, Prefix, Address, Identifier, Passive}
use Rattle.conf_shape.specs.Keys.{KeyDefault, Nothing, On, Off, Count, Spelled, OwnKey, OwnName}
use Rattle.law_checks.specs.Fields.{other_spellings}

pub record Line : Type 0 where
  pub key : List ℕ
  pub kind : Kind
  pub need : Need
  pub default : KeyDefault

abbrev pub line : List ℕ → Kind → Need → KeyDefault → Line
line key kind need default = record { key = key; kind = kind; need = need; default = default }

-- a key that has to be there, and one that may be left away, with and without a default
abbrev pub needed : List ℕ → Kind → Line
needed key kind = line key kind Always Nothing

abbrev pub with_default : List ℕ → Kind → KeyDefault → Line
with_default key kind default = line key kind Never default

abbrev pub free : List ℕ → Kind → Line
free key kind = line key kind Never Nothing

-- ---- the whole document

abbrev pub top_lines : List Line
top_lines =
    needed (codes "dps") (Map Datapaths) ∷
    free (codes "vlans") (Map Vlans) ∷
    free (codes "acls") (Map Acls) ∷
    free (codes "routers") (Map Routers) ∷
    free (codes "version") (One (Number 2 2)) ∷
    []

-- ---- datapaths and interfaces

abbrev pub datapath_lines : List Line
datapath_lines =
    needed (codes "dp_id") (One (Number 0 18446744073709551615)) ∷
    needed (codes "interfaces") (Map Interfaces) ∷
    with_default (codes "name") (One Name) OwnKey ∷
    with_default (codes "description") (One Name) OwnName ∷
    with_default (codes "hardware") (One Words) (Spelled (codes "Open vSwitch")) ∷
    with_default (codes "timeout") (One (Number 1 604800)) (Count 300) ∷
    with_default (codes "arp_neighbor_timeout") (One (Number 1 604800)) (Count 30) ∷
    free (codes "stack") (Map DatapathStack) ∷
    with_default (codes "drop_spoofed_faucet_mac") (One Flag) On ∷
    with_default (codes "drop_broadcast_source_address") (One Flag) On ∷
    with_default (codes "drop_bpdu") (One Flag) On ∷
    with_default (codes "drop_lldp") (One Flag) On ∷
    free (codes "lldp_beacon") (Map LldpBeacon) ∷
    free (codes "learn_ban_timeout") (One NoEffect) ∷
    free (codes "learn_jitter") (One NoEffect) ∷
    free (codes "ignore_learn_ins") (One NoEffect) ∷
    free (codes "packetin_pps") (One NoEffect) ∷
    free (codes "slowpath_pps") (One NoEffect) ∷
    free (codes "max_resolve_backoff_time") (One NoEffect) ∷
    free (codes "max_host_fib_retry_count") (One NoEffect) ∷
    free (codes "max_hosts_per_resolve_cycle") (One NoEffect) ∷
    free (codes "metrics_rate_limit_sec") (One NoEffect) ∷
    free (codes "ofchannel_log") (One NoEffect) ∷
    free (codes "combinatorial_port_flood") (One NoEffect) ∷
    free (codes "cache_update_guard_time") (One NoEffect) ∷
    []

abbrev pub datapath_stack_lines : List Line
datapath_stack_lines = free (codes "priority") (One (Number 0 4294967295)) ∷ []

abbrev pub lldp_beacon_lines : List Line
lldp_beacon_lines =
    with_default (codes "send_interval") (One (Number 1 300)) (Count 5) ∷
    free (codes "max_per_interval") (One (Number 1 1024)) ∷
    []

abbrev pub interface_lines : List Line
interface_lines =
    line (codes "number") (Given 1 4294967040) UnlessNumbered OwnKey ∷
    with_default (codes "name") (One Name) OwnKey ∷
    with_default (codes "description") (One Name) OwnName ∷
    with_default (codes "enabled") (One Flag) On ∷
    with_default (codes "unicast_flood") (One Flag) On ∷
    with_default (codes "opstatus_reconf") (One Flag) On ∷
    with_default (codes "output_only") (One Flag) Off ∷
    with_default (codes "hairpin") (One Flag) Off ∷
    with_default (codes "permanent_learn") (One Flag) Off ∷
    free (codes "native_vlan") (One (Reference 1 4094)) ∷
    free (codes "tagged_vlans") (Several (Reference 1 4094)) ∷
    free (codes "acl_in") (One Label) ∷
    free (codes "acls_in") (Several Label) ∷
    with_default (codes "max_hosts") (One (Number 1 16384)) (Count 255) ∷
    free (codes "mirror") (OneOrSeveral (Reference 1 4294967040)) ∷
    free (codes "stack") (Map PortStack) ∷
    []

abbrev pub port_stack_lines : List Line
port_stack_lines =
    needed (codes "dp") (One Words) ∷
    needed (codes "port") (One (Reference 1 4294967040)) ∷
    []

-- ---- VLANs

abbrev pub vlan_lines : List Line
vlan_lines =
    line (codes "vid") (Given 1 4094) UnlessNumbered OwnKey ∷
    with_default (codes "name") (One Name) OwnKey ∷
    with_default (codes "description") (One Name) OwnName ∷
    free (codes "acl_in") (One Label) ∷
    free (codes "acls_in") (Several Label) ∷
    with_default (codes "faucet_mac") (One StationMac) (Spelled (codes "0e:00:00:00:00:01")) ∷
    free (codes "faucet_vips") (Several Vip) ∷
    free (codes "routes") (Maps RouteItem) ∷
    with_default (codes "max_hosts") (One (Number 1 16384)) (Count 255) ∷
    with_default (codes "unicast_flood") (One Flag) On ∷
    []

abbrev pub route_item_lines : List Line
route_item_lines = needed (codes "route") (Map Route) ∷ []

abbrev pub route_lines : List Line
route_lines =
    needed (codes "ip_dst") (One Destination) ∷
    needed (codes "ip_gw") (One Gateway) ∷
    []

-- ---- ACLs and routers

abbrev pub rule_item_lines : List Line
rule_item_lines = needed (codes "rule") (Map Rule) ∷ []

abbrev pub rule_lines : List Line
rule_lines =
    needed (codes "actions") (Map Actions) ∷
    free (codes "description") (One Words) ∷
    free (codes "eth_src") (One MaskedMac) ∷
    free (codes "eth_dst") (One MaskedMac) ∷
    free (codes "eth_type") (One (Number 0 65535)) ∷
    free (codes "vlan_vid") (One (Number 1 4094)) ∷
    free (codes "vlan_pcp") (One (Number 0 7)) ∷
    free (codes "ip_proto") (One (Number 0 255)) ∷
    free (codes "ipv4_src") (One (Prefix 32)) ∷
    free (codes "ipv4_dst") (One (Prefix 32)) ∷
    free (codes "tcp_src") (One (Number 0 65535)) ∷
    free (codes "tcp_dst") (One (Number 0 65535)) ∷
    free (codes "udp_src") (One (Number 0 65535)) ∷
    free (codes "udp_dst") (One (Number 0 65535)) ∷
    free (codes "icmpv4_type") (One (Number 0 255)) ∷
    free (codes "icmpv4_code") (One (Number 0 255)) ∷
    free (codes "arp_op") (One (Number 0 65535)) ∷
    free (codes "arp_spa") (One (Prefix 32)) ∷
    free (codes "arp_tpa") (One (Prefix 32)) ∷
    free (codes "ipv6_src") (One (Prefix 128)) ∷
    free (codes "ipv6_dst") (One (Prefix 128)) ∷
    free (codes "icmpv6_type") (One (Number 0 255)) ∷
    free (codes "icmpv6_code") (One (Number 0 255)) ∷
    free (codes "ipv6_nd_target") (One (Address 128)) ∷
    []

abbrev pub actions_lines : List Line
actions_lines =
    with_default (codes "allow") (One Permission) Off ∷
    free (codes "mirror") (One (Reference 1 4294967040)) ∷
    free (codes "output") (MapOrMaps Output) ∷
    []

abbrev pub output_lines : List Line
output_lines =
    free (codes "port") (One (Reference 1 4294967040)) ∷
    free (codes "ports") (Several (Reference 1 4294967040)) ∷
    []

abbrev pub router_lines : List Line
router_lines =
    line (codes "vlans") (Several (Reference 1 4094)) UnlessBgp Nothing ∷
    free (codes "bgp") (Map Bgp) ∷
    []

abbrev pub bgp_lines : List Line
bgp_lines =
    needed (codes "as") (One (Number 1 65535)) ∷
    needed (codes "neighbor_as") (One (Number 1 65535)) ∷
    needed (codes "neighbor_addresses") (Several Words) ∷
    needed (codes "server_addresses") (Several Words) ∷
    needed (codes "routerid") (One Identifier) ∷
    needed (codes "vlan") (One (Reference 1 4094)) ∷
    free (codes "port") (One (Number 1 65535)) ∷
    free (codes "connect_mode") (One Passive) ∷
    []

-- ---- by the kind of map; the keys of the others are names and numbers of the user's

abbrev pub lines : MapKind → List Line
lines Top = top_lines
lines Datapath = datapath_lines
lines DatapathStack = datapath_stack_lines
lines LldpBeacon = lldp_beacon_lines
lines (Interface number) = interface_lines
lines PortStack = port_stack_lines
lines (Vlan number) = vlan_lines
lines RouteItem = route_item_lines
lines Route = route_lines
lines RuleItem = rule_item_lines
lines Rule = rule_lines
lines Actions = actions_lines
lines Output = output_lines
lines Router = router_lines
lines Bgp = bgp_lines
lines _ = []

-- ---- other spellings of keys

abbrev pub spellings : MapKind → List (List ℕ × List ℕ)
spellings Rule = other_spellings
spellings _ = []

-- ---- keys that are left out of what is supported

abbrev pub left_out : MapKind → List (List ℕ)
left_out Top = codes "include" ∷ codes "include-optional" ∷ codes "meters" ∷ []
left_out Datapath =
    codes "interface_ranges" ∷ codes "dot1x" ∷ codes "egress_pipeline" ∷ codes "group_table" ∷
    codes "use_idle_timeout" ∷ codes "priority_offset" ∷ codes "low_priority" ∷ codes "high_priority" ∷
    codes "lowest_priority" ∷ codes "highest_priority" ∷ codes "proactive_learn_v4" ∷ codes "proactive_learn_v6" ∷
    codes "nd_neighbor_timeout" ∷ codes "idle_dst" ∷ codes "dp_acls" ∷ codes "global_vlan" ∷
    codes "strict_packet_in_cookie" ∷ codes "multi_out" ∷ codes "advertise_interval" ∷ codes "table_sizes" ∷
    codes "use_classification" ∷ codes "lacp_timeout" ∷ []
left_out (Interface number) =
    codes "acls_out" ∷ codes "dot1x" ∷ codes "dot1x_acl" ∷ codes "dot1x_mab" ∷ codes "lacp" ∷ codes "lacp_active" ∷
    codes "lldp_beacon" ∷ codes "receive_lldp" ∷ codes "loop_protect" ∷ codes "loop_protect_external" ∷
    codes "override_output_port" ∷ codes "restricted_bcast_arpnd" ∷ codes "coprocessor" ∷ []
left_out (Vlan number) =
    codes "acls_out" ∷ codes "targeted_gw_resolution" ∷ codes "minimum_ip_size_check" ∷ codes "proactive_arp_limit" ∷
    codes "proactive_nd_limit" ∷ []
left_out Rule =
    codes "cookie" ∷ codes "in_port" ∷ codes "ip_dscp" ∷ codes "ip_ecn" ∷ []
left_out Actions = codes "meter" ∷ codes "ct" ∷ codes "force_port_vlan" ∷ []
left_out Output =
    codes "set_fields" ∷ codes "vlan_vid" ∷ codes "vlan_vids" ∷ codes "pop_vlans" ∷ codes "swap_vid" ∷
    codes "failover" ∷ codes "tunnel" ∷ []
left_out _ = []
