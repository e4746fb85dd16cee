-- What holds of every accepted configuration, by concern.
use Rattle.std.specs.Prelude.{◌≡◌, ◌==◌, ◌&&◌, ◌||◌, ◌+◌, ◌*◌, ◌%◌, ◌^◌, ◌<◌, ◌≤◌, Bool, true, false, not, ℕ, List, [], ◌∷◌, ◌++◌, length, Some, None, is_some, IsTrue, IfSome, IsSomeAnd, sum_by, count_by, map, filter, slice_get, if◌then◌else◌}
use Rattle.std.specs.List.{AllByRecursion, list_any}
use Rattle.std.specs.Option.{option_map_or}
use Rattle.net_base.specs.WellFormed.{IsWellFormed}
use Rattle.net_base.specs.Numbers.{IsVid, IsPortNo}
use Rattle.conf_types.specs.declared.address.Net.{Net}
use Rattle.conf_types.specs.declared.acl.PortRef.{PortRef}
use Rattle.conf_types.specs.declared.acl.PortRef.TheVariants.{No, Name}
use Rattle.conf_types.specs.declared.acl.Rule.{Rule}
use Rattle.conf_types.specs.declared.datapath.Dp.{Dp}
use Rattle.conf_types.specs.declared.datapath.Port.{Port}
use Rattle.conf_types.specs.declared.datapath.StackEnd.{StackEnd}
use Rattle.conf_types.specs.declared.peer.BgpConf.{BgpConf}
use Rattle.conf_types.specs.declared.vlan.Route.{Route}
use Rattle.conf_types.specs.declared.vlan.Vlan.{Vlan}
use Rattle.conf_types.specs.Attached.{acl_named, rules_of, is_named, port_named, names_in}
use Rattle.conf_types.specs.Configuration.{Configuration, port_with, port_at, vlan_with}
use Rattle.conf_types.specs.Families.{IsAddress, family_of, width_of, is_same_family, different_ips, address_of, len_of}
use Rattle.conf_types.specs.Groups.{group_of}
use Rattle.conf_types.specs.Lists.{EachBefore, AreDistinct, IsTextBefore, IsLabel, is_among}
use Rattle.conf_types.specs.Membership.{is_edge, is_stack, is_edge_member, has_edge_member, is_mirror_of, is_mirrored}
use Rattle.conf_types.specs.Networks.{AreApart, AreApartOrLocal, LiesIn, AreSame, HasNoHostBits, is_neighbour_address}
use Rattle.conf_types.specs.Routing.{routing_set, vips_in, routes_in}
use Rattle.conf_types.specs.RuleFields.{MayAsk}

-- ---- VLANs

-- an Ethernet address of one station (IEEE 802, 8.2: the first bit sent of a group address is 1),
-- and not zero
pub record IsStation (bytes : List ℕ) : Type 0 where
  pub six : length bytes ≡ 6
  pub each : AllByRecursion (λ b. b < 256) bytes
  pub individual : IsSomeAnd (slice_get bytes 0) (λ first. first % 2 ≡ 0)
  pub not_zero : list_any (λ b. not (b == 0)) bytes ≡ true

-- a VIP leaves room for neighbours
pub record IsVip (net : Net) : Type 0 where
  pub address : IsAddress (address_of net)
  pub least : 1 ≤ len_of net
  pub most : len_of net ≤ (family_of (address_of net)).most_vip_len

pub record IsRoute (route : Route) : Type 0 where
  pub address : IsAddress (address_of route.dst)
  pub length : len_of route.dst ≤ width_of (address_of route.dst)
  pub network : HasNoHostBits route.dst
  pub gateway : IsAddress route.gw

pub record IsVlan (v : Vlan) : Type 0 where
  pub number : IsVid v.vid
  pub name : IsLabel v.name
  pub description : IsLabel v.description
  pub mac : IsStation v.mac.0
  pub vips : AllByRecursion IsVip v.vips
  pub routes : AllByRecursion IsRoute v.routes
  pub hosts : 1 ≤ v.max_hosts
  pub most_hosts : v.max_hosts ≤ 16384

pub record VlansAreValid (conf : Configuration) : Type 0 where
  pub each : AllByRecursion IsVlan conf.vlans
  -- by number, no two with one
  pub in_order : EachBefore (λ v w. v.vid < w.vid) conf.vlans
  pub names : EachBefore (λ v w. v.name ≡ w.name → ⊥) conf.vlans

-- ---- datapaths and their interfaces

-- from one second to one week
pub record IsTimeout (seconds : ℕ) : Type 0 where
  pub least : 1 ≤ seconds
  pub most : seconds ≤ 604800

-- from one second to five minutes
pub record IsInterval (seconds : ℕ) : Type 0 where
  pub least : 1 ≤ seconds
  pub most : seconds ≤ 300

-- the VLANs that an interface names
abbrev pub vlans_named : Port → List ℕ
vlans_named p = option_map_or (λ vid. vid ∷ p.tagged) p.native p.tagged

pub record IsPort (conf : Configuration) (p : Port) : Type 0 where
  pub number : IsPortNo p.no
  pub name : IsLabel p.name
  pub description : IsLabel p.description
  pub hosts : 1 ≤ p.max_hosts
  pub most_hosts : p.max_hosts ≤ 16384
  -- each VLAN that it names exists, and is named once
  pub vlans : AllByRecursion (λ vid. IsTrue (is_some (vlan_with conf.vlans vid))) (vlans_named p)
  pub once : AreDistinct (vlans_named p)

pub record IsDatapath (conf : Configuration) (d : Dp) : Type 0 where
  pub id : d.id.0 < 2 ^ 64
  pub name : IsLabel d.name
  pub description : IsLabel d.description
  pub timeout : IsTimeout d.timeout
  pub arp_timeout : IsTimeout d.arp_timeout
  pub stack_priority : IfSome d.stack_priority (λ priority. priority < 2 ^ 32)
  pub lldp : IfSome d.lldp IsInterval
  pub ports : AllByRecursion (IsPort conf) d.ports
  -- by number, no two with one
  pub in_order : EachBefore (λ p q. p.no < q.no) d.ports
  pub port_names : EachBefore (λ p q. p.name ≡ q.name → ⊥) d.ports

pub record DatapathsAreValid (conf : Configuration) : Type 0 where
  pub each : AllByRecursion (IsDatapath conf) conf.dps
  -- by name, no two with one
  pub in_order : EachBefore (λ d e. IsTextBefore d.name e.name) conf.dps
  pub ids : EachBefore (λ d e. d.id.0 ≡ e.id.0 → ⊥) conf.dps

-- ---- ACLs

-- a port that is named by its number has the number of one
abbrev pub NamesPort : PortRef → Type 0
NamesPort (No number) = IsPortNo number
NamesPort (Name name) = Unit {0}

pub record IsRule (rule : Rule) : Type 0 where
  -- by number, no two with one; each with what it asks of the others (OpenFlow 1.3, 7.2.3.6)
  pub fields : IsWellFormed rule.fields
  pub each : AllByRecursion (λ f. MayAsk f.id f) rule.fields
  -- whether or not the rule is attached anywhere
  pub ports : AllByRecursion NamesPort (names_in rule)

-- the ports that the rules name are interfaces of the datapath, and no ends of stack links
abbrev pub NamePortsOf : Dp → List Rule → Type 0
NamePortsOf d rules =
    AllByRecursion (λ rule. AllByRecursion (λ name. IsSomeAnd (port_named d name) (λ p. p.stack ≡ None)) (names_in rule)) rules

-- each name is that of an ACL
abbrev pub AclsExist : Configuration → List (List ℕ) → Type 0
AclsExist conf names = AllByRecursion (λ name. IsTrue (is_some (acl_named conf.acls name))) names

pub record AclsAreValid (conf : Configuration) : Type 0 where
  pub rules : AllByRecursion (λ acl. AllByRecursion IsRule acl.rules) conf.acls
  -- by name, no two with one
  pub in_order : EachBefore (λ a b. IsTextBefore a.name b.name) conf.acls
  pub of_ports : AllByRecursion (λ d. AllByRecursion (λ p. AclsExist conf p.acls) d.ports) conf.dps
  pub of_vlans : AllByRecursion (λ v. AclsExist conf v.acls) conf.vlans
  -- an interface's ACLs are attached where they are written
  pub ports_on : AllByRecursion (λ d. AllByRecursion (λ p. NamePortsOf d (rules_of conf p.acls)) d.ports) conf.dps
  -- a VLAN's ACLs are attached on each datapath that has an edge port of it
  pub vlans_on : AllByRecursion (λ d. AllByRecursion (λ v. has_edge_member d v.vid ≡ true → NamePortsOf d (rules_of conf v.acls)) conf.vlans) conf.dps

-- ---- mirrors

-- an interface that mirrors others does nothing else
pub record IsMirror (d : Dp) (p : Port) : Type 0 where
  -- the mirrored ports are edge ports, so none mirrors another, and each is named once
  pub mirrored : AllByRecursion (λ number. IsSomeAnd (port_with d.ports number) (λ q. IsTrue (is_edge q))) p.mirror
  pub once : AreDistinct p.mirror
  pub no_vlan : vlans_named p ≡ []
  pub no_acl : p.acls ≡ []
  pub no_stack : p.stack ≡ None

pub record MirrorsAreValid (conf : Configuration) : Type 0 where
  pub each : AllByRecursion (λ d. AllByRecursion (λ p. (p.mirror ≡ [] → ⊥) → IsMirror d p) d.ports) conf.dps

-- ---- stack links

-- an end of a stack link does nothing else
pub record IsStackPort (conf : Configuration) (d : Dp) (p : Port) (far : StackEnd) : Type 0 where
  pub elsewhere : d.id.0 ≡ far.dp.0 → ⊥
  -- the far end exists and points back
  pub far_end : IsSomeAnd (port_at conf far.dp far.port) (λ q. q.stack ≡ Some (record { dp = d.id; port = p.no }))
  pub no_vlan : vlans_named p ≡ []
  pub no_acl : p.acls ≡ []
  pub no_mirror : p.mirror ≡ []
  pub takes_packets : p.output_only ≡ false
  pub no_hairpin : p.hairpin ≡ false
  pub no_permanent_learn : p.permanent_learn ≡ false

pub record StacksAreValid (conf : Configuration) : Type 0 where
  pub each : AllByRecursion (λ d. AllByRecursion (λ p. IfSome p.stack (IsStackPort conf d p)) d.ports) conf.dps

-- ---- routing

-- the number of an autonomous system (RFC 4271, 4.2: two bytes; 0 stands for none)
pub record IsAs (number : ℕ) : Type 0 where
  pub least : 1 ≤ number
  pub most : number ≤ 65535

-- the identifier of a speaker isn't 0 (RFC 4271, 6.2); the VLAN of its routes exists
pub record IsPeer (conf : Configuration) (peer : BgpConf) : Type 0 where
  pub ours : IsAs peer.our_as
  pub theirs : IsAs peer.neighbor_as
  pub identified : 1 ≤ peer.routerid.0
  pub address : peer.routerid.0 < 2 ^ 32
  pub vlan : IsTrue (is_some (vlan_with conf.vlans peer.vlan))

pub record RoutesAreValid (conf : Configuration) (v : Vlan) : Type 0 where
  -- a gateway is a neighbour of the VLAN, of the family of what it leads to
  pub reached : AllByRecursion (λ route. IsTrue (is_neighbour_address v.vips route.gw)) v.routes
  pub one_family : AllByRecursion (λ route. IsTrue (is_same_family route.gw (address_of route.dst))) v.routes
  -- no route leads into a network of a VIP of the routing set
  pub outside : AllByRecursion (λ route. AllByRecursion (λ vip. LiesIn route.dst vip → ⊥) (vips_in conf (routing_set conf v.vid))) v.routes

pub record RoutingIsValid (conf : Configuration) : Type 0 where
  -- by name, no two with one
  pub in_order : EachBefore (λ r s. IsTextBefore r.name s.name) conf.routers
  -- each VLAN that a router names exists, and is named once
  pub vlans : AllByRecursion (λ r. AllByRecursion (λ vid. IsTrue (is_some (vlan_with conf.vlans vid))) r.vlans) conf.routers
  pub once : AllByRecursion (λ r. AreDistinct r.vlans) conf.routers
  -- no VLAN is in two routers
  pub apart : EachBefore (λ r s. AllByRecursion (λ vid. is_among s.vlans vid ≡ false) r.vlans) conf.routers
  pub peers : AllByRecursion (λ r. IfSome r.bgp (IsPeer conf)) conf.routers
  -- networks of a VLAN's VIPs don't overlap
  pub own_vips : AllByRecursion (λ v. EachBefore AreApart v.vips) conf.vlans
  -- of the VLANs of a routing set: networks of VIPs don't overlap, unless both are link-local, and routes
  -- lead to different networks
  pub vips : AllByRecursion (λ v. EachBefore AreApartOrLocal (vips_in conf (routing_set conf v.vid))) conf.vlans
  pub routes : AllByRecursion (λ v. EachBefore (λ r s. AreSame r.dst s.dst → ⊥) (routes_in conf (routing_set conf v.vid))) conf.vlans
  pub each : AllByRecursion (RoutesAreValid conf) conf.vlans

-- ---- limits

-- the interface is an edge port that is mirrored or sends packets back
abbrev pub is_special : Dp → Port → Bool
is_special d p = is_edge p && (p.hairpin || is_mirrored d p.no)

-- how many VLANs have the interface as a member
abbrev pub members_at : Configuration → Port → ℕ
members_at conf p =
    if is_stack p then length conf.vlans else count_by (λ v. is_edge_member p v.vid) conf.vlans

-- how many interfaces of a datapath a rule names
abbrev pub ports_named : Dp → Rule → ℕ
ports_named d rule = count_by (λ p. list_any (λ name. is_named name p) (names_in rule)) d.ports

-- the rules that are attached on a datapath, of each attachment: its interfaces' and its VLANs'
abbrev pub attached : Configuration → Dp → List (List Rule)
attached conf d =
    map (rules_of conf) (filter (λ names. not (length names == 0)) (map (λ p. p.acls) d.ports ++ map (λ v. v.acls) (filter (λ v. has_edge_member d v.vid) conf.vlans)))

pub record DatapathIsWithin (conf : Configuration) (d : Dp) : Type 0 where
  pub ports : length d.ports ≤ 256
  pub mirrors : AllByRecursion (λ p. count_by (λ m. is_mirror_of m p.no) d.ports ≤ 4) d.ports
  pub special : count_by (is_special d) d.ports ≤ 16
  pub rules : AllByRecursion (λ rules. length rules ≤ 1000) (attached conf d)
  pub acl_entries : sum_by (λ rules. length rules + 1) (attached conf d) ≤ 20000
  pub acl_outputs : sum_by (λ rules. sum_by (ports_named d) rules) (attached conf d) ≤ 65536
  pub members : sum_by (members_at conf) d.ports ≤ 8192

-- the VIPs and routes that packets of a VLAN may take
abbrev pub route_items : Configuration → Vlan → ℕ
route_items conf v =
    if length v.vips == 0 then 0 else length (vips_in conf (routing_set conf v.vid)) + length (routes_in conf (routing_set conf v.vid))

-- how many groups there are, by their numbers
abbrev pub group_count : Configuration → ℕ
group_count conf = count_by (λ d. (group_of conf d.id).0 == d.id.0) conf.dps

pub record IsWithinLimits (conf : Configuration) : Type 0 where
  pub dps : length conf.dps ≤ 64
  pub vlans : length conf.vlans ≤ 1024
  pub each : AllByRecursion (DatapathIsWithin conf) conf.dps
  pub vips : AllByRecursion (λ v. length v.vips ≤ 8) conf.vlans
  pub router_vlans : AllByRecursion (λ r. length r.vlans ≤ 16) conf.routers
  pub routes : sum_by (λ v. length v.routes) conf.vlans ≤ 1024
  -- each group asks for each gateway of each VLAN
  pub gateways : group_count conf * sum_by (λ v. different_ips (map (λ r. r.gw) v.routes)) conf.vlans ≤ 1024
  pub route_items : sum_by (route_items conf) conf.vlans ≤ 32768

-- ---- all of it

pub record IsValid (conf : Configuration) : Type 0 where
  pub vlans : VlansAreValid conf
  pub datapaths : DatapathsAreValid conf
  pub acls : AclsAreValid conf
  pub mirrors : MirrorsAreValid conf
  pub stacks : StacksAreValid conf
  pub routing : RoutingIsValid conf
  pub limits : IsWithinLimits conf
