-- What each limit of a configuration counts: relations that name the things one by one.
use Rattle.std.specs.Prelude.{◌≡◌, ◌⊎◌, ℕ, ◌<◌, ◌≤◌, true, List, [], length, Some, Contains, slice_get}
use Rattle.std.specs.List.{AllByRecursion}
use Rattle.net_base.specs.declared.numbers.DpId.{DpId}
use Rattle.conf_types.specs.declared.address.Ip.{Ip}
use Rattle.conf_types.specs.declared.acl.PortRef.{PortRef}
use Rattle.conf_types.specs.declared.acl.Rule.{Rule}
use Rattle.conf_types.specs.declared.datapath.Dp.{Dp}
use Rattle.conf_types.specs.declared.datapath.Member.TheVariants as member_case
use Rattle.conf_types.specs.declared.datapath.Port.{Port}
use Rattle.conf_types.specs.declared.vlan.Route.{Route}
use Rattle.conf_types.specs.declared.vlan.Vlan.{Vlan}
use Rattle.conf_types.specs.Attached.{rules_of, is_named, names_in}
use Rattle.conf_types.specs.Configuration.{Configuration}
use Rattle.conf_types.specs.Groups.{IsGroup}
use Rattle.conf_types.specs.Lists.{EachBefore, AreDistinct}
use Rattle.conf_types.specs.Membership.{is_edge, is_edge_member, member}
use Rattle.conf_types.specs.Routing.{routing_set}

-- numbers tell VLANs apart, datapaths, and the interfaces of each; and a router has each of its VLANs once
pub record AreTold (conf : Configuration) : Type 0 where
  pub vlans : EachBefore (λ v w. v.vid ≡ w.vid → ⊥) conf.vlans
  pub dps : EachBefore (λ d e. d.id.0 ≡ e.id.0 → ⊥) conf.dps
  pub ports : AllByRecursion (λ d. EachBefore (λ p q. p.no ≡ q.no → ⊥) d.ports) conf.dps
  pub routers : AllByRecursion (λ r. AreDistinct r.vlans) conf.routers

-- ---- datapaths, VLANs and interfaces, by their numbers

abbrev pub IsDpId : Configuration → ℕ → Type 0
IsDpId conf id = (d : Dp) × Contains conf.dps d × (d.id.0 ≡ id)

abbrev pub IsVid : Configuration → ℕ → Type 0
IsVid conf vid = (v : Vlan) × Contains conf.vlans v × (v.vid ≡ vid)

abbrev pub IsPortOf : Dp → ℕ → Type 0
IsPortOf d number = (p : Port) × Contains d.ports p × (p.no ≡ number)

-- ---- mirrors

-- the interface with the second number mirrors the port with the first
abbrev pub Mirrors : Dp → ℕ → ℕ → Type 0
Mirrors d mirrored number = (m : Port) × Contains d.ports m × (m.no ≡ number) × Contains m.mirror mirrored

-- an edge port that sends packets back or is mirrored
abbrev pub IsSpecial : Dp → ℕ → Type 0
IsSpecial d number = (p : Port) × Contains d.ports p × (p.no ≡ number) × (is_edge p ≡ true) × ((p.hairpin ≡ true) ⊎ ((m : ℕ) × Mirrors d number m))

-- ---- members

-- an interface and a VLAN to which it belongs, in whichever way
abbrev pub IsMember : Configuration → Dp → ℕ × ℕ → Type 0
IsMember conf d pair = member conf d.id pair.0 pair.1 ≡ member_case.None → ⊥

-- ---- ACLs

-- where ACLs are attached: at an interface, or in a VLAN
pub data Attachment : Type 0 where
  OnPort : ℕ → Attachment
  OnVlan : ℕ → Attachment

-- some ACLs are attached there; those of a VLAN where the datapath has an edge port of it
abbrev pub IsAttached : Configuration → Dp → Attachment → List (List ℕ) → Type 0
IsAttached conf d (OnPort number) acls = (p : Port) × Contains d.ports p × (p.no ≡ number) × (p.acls ≡ acls) × (acls ≡ [] → ⊥)
IsAttached conf d (OnVlan vid) acls = (v : Vlan) × Contains conf.vlans v × (v.vid ≡ vid) × (v.acls ≡ acls) × (acls ≡ [] → ⊥) × ((q : Port) × Contains d.ports q × (is_edge_member q vid ≡ true))

-- an attachment, and one of its rules by its place, or the place behind them, which is the denial's
abbrev pub IsAclEntry : Configuration → Dp → Attachment × ℕ → Type 0
IsAclEntry conf d pair = (acls : List (List ℕ)) × IsAttached conf d pair.0 acls × (pair.1 ≤ length (rules_of conf acls))

-- the rule names the interface with this number
abbrev pub NamesPort : Dp → Rule → ℕ → Type 0
NamesPort d rule number = (p : Port) × Contains d.ports p × (p.no ≡ number) × ((name : PortRef) × Contains (names_in rule) name × (is_named name p ≡ true))

-- an attachment, one of its rules by its place, and an interface that the rule names
abbrev pub IsAclOutput : Configuration → Dp → Attachment × (ℕ × ℕ) → Type 0
IsAclOutput conf d triple = (acls : List (List ℕ)) × IsAttached conf d triple.0 acls × ((rule : Rule) × (slice_get (rules_of conf acls) triple.1.0 ≡ Some rule) × NamesPort d rule triple.1.1)

-- ---- routing

-- a VLAN, and one of its routes by its place
abbrev pub IsRoute : Configuration → ℕ × ℕ → Type 0
IsRoute conf pair = (v : Vlan) × Contains conf.vlans v × (v.vid ≡ pair.0) × (pair.1 < length v.routes)

-- a group of datapaths, a VLAN, and the address of a gateway of it
abbrev pub IsGateway : Configuration → DpId × (ℕ × Ip) → Type 0
IsGateway conf triple =
    ((d : Dp) × Contains conf.dps d × IsGroup conf d.id triple.0)
    × ((v : Vlan) × Contains conf.vlans v × (v.vid ≡ triple.1.0) × ((r : Route) × Contains v.routes r × (r.gw ≡ triple.1.1)))

-- a VIP or a route of a VLAN, by its place
pub data Item : Type 0 where
  VipAt : ℕ → Item
  RouteAt : ℕ → Item

abbrev pub IsItemOf : Vlan → Item → Type 0
IsItemOf v (VipAt k) = k < length v.vips
IsItemOf v (RouteAt k) = k < length v.routes

-- a VLAN that has a VIP, a VLAN of its routing set, and a VIP or a route of that one
abbrev pub IsRouteItem : Configuration → ℕ × (ℕ × Item) → Type 0
IsRouteItem conf triple =
    ((v : Vlan) × Contains conf.vlans v × (v.vid ≡ triple.0) × (v.vips ≡ [] → ⊥))
    × Contains (routing_set conf triple.0) triple.1.0
    × ((w : Vlan) × Contains conf.vlans w × (w.vid ≡ triple.1.0) × IsItemOf w triple.1.1)
