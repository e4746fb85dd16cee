-- Rules 12 to 15: networks between which packets are routed, and the routers that say so.
use Rattle.std.specs.Prelude.{◌≡◌, ◌&&◌, ℕ, ◌⊎◌, true, false, List, codes, Contains}
use Rattle.yaml_tree.specs.declared.tree.Tree.{Tree, out-Tree}
use Rattle.conf_types.specs.declared.address.Ip.{Ip}
use Rattle.conf_types.specs.declared.address.Net.{Net}
use Rattle.conf_types.specs.declared.vlan.Route.{Route}
use Rattle.conf_types.specs.declared.vlan.Router.{Router}
use Rattle.conf_types.specs.Configuration.{Configuration}
use Rattle.conf_types.specs.Families.{is_same_family, address_of}
use Rattle.conf_types.specs.Lists.{is_among}
use Rattle.conf_types.specs.Networks.{Holds, LiesIn, AreSame, is_link_local, is_neighbour_address}
use Rattle.conf_types.specs.Routing.{routing_set, vips_in}
use Rattle.conf_shape.specs.declared.raw.RawRouter.{RawRouter}
use Rattle.conf_shape.specs.declared.raw.RawVlan.{RawVlan}
use Rattle.conf_shape.specs.declared.raw.VlanRef.{VlanRef}
use Rattle.conf_resolve.specs.declared.ordered.OrderedConf.{OrderedConf}
use Rattle.conf_resolve.specs.declared.ordered.PlacedVlan.{PlacedVlan}
use Rattle.conf_resolve.specs.InOrder.{router_site}
use Rattle.conf_rules.specs.Places.{under}
use Rattle.conf_rules.specs.Routing.{route_site}
use Rattle.law_checks.specs.Values.{IsNetwork, IsAddress, IsVlanOf}
use Rattle.law_breaks.specs.Found.{StandsBefore, IsItemOf}
use Rattle.law_breaks.specs.Names.{NameOneVlan}

-- a router has both VLANs
pub record Joins (conf : Configuration) (v w : ℕ) : Type 0 where
  pub router : Router
  pub is_router : Contains conf.routers router
  pub one : is_among router.vlans v ≡ true
  pub other : is_among router.vlans w ≡ true

-- packets are routed between the two VLANs, or they are one
abbrev pub AreRouted : Configuration → ℕ → ℕ → Type 0
AreRouted conf v w = (v ≡ w) ⊎ Joins conf v w

-- the same list of an earlier VLAN that packets are routed to has it
pub record IsOfEarlier {A : Type 0} (o : OrderedConf) (conf : Configuration) (placed : PlacedVlan) (list_of : RawVlan → List A) (other : A) : Type 0 where
  pub vlan : PlacedVlan
  pub earlier : StandsBefore o.vlans vlan placed
  pub routed : AreRouted conf vlan.vlan.vid placed.vlan.vid
  pub has : Contains (list_of vlan.vlan) other

-- an item of a list of a VLAN has the one in common with one of such a VLAN, or the other with one before it
pub record Meets {A : Type 0} (o : OrderedConf) (conf : Configuration) (placed : PlacedVlan) (list_of : RawVlan → List A) (Across Within : A → A → Type 0) (x : A) : Type 0 where
  pub other : A
  pub agree : (StandsBefore (list_of placed.vlan) other x × Within other x) ⊎ (IsOfEarlier o conf placed list_of other × Across other x)

-- some address is of both
abbrev pub Overlap : Net → Net → Type 0
Overlap a b = (ip : Ip) × Holds a ip × Holds b ip

-- and not both are link-local
abbrev pub Clash : Net → Net → Type 0
Clash a b = Overlap a b × ((is_link_local a && is_link_local b) ≡ false)

-- rule 12: a VIP's network overlaps that of an earlier one
pub record OverlapsVip (o : OrderedConf) (conf : Configuration) (steps : List (List ℕ)) (v : Tree) : Type 0 where
  pub placed : PlacedVlan
  pub is_vlan : Contains o.vlans placed
  pub vip : Net
  pub item : IsItemOf (under placed.site (codes "faucet_vips")) placed.vlan.vips steps vip
  pub spelled : IsNetwork v vip
  pub meets : Meets o conf placed (λ w. w.vips) Clash Overlap vip

-- rule 13: a router names a VLAN that an earlier one names
pub record RoutesAgain (o : OrderedConf) (steps : List (List ℕ)) (v : Tree) : Type 0 where
  pub router : RawRouter
  pub ref : VlanRef
  pub item : IsItemOf (under (router_site router) (codes "vlans")) router.vlans steps ref
  pub names : IsVlanOf (out-Tree v) ref
  pub earlier : RawRouter
  pub order : StandsBefore o.routers earlier router
  pub other : VlanRef
  pub is_other : Contains earlier.vlans other
  pub one : NameOneVlan o other ref

-- the steps lead to what this key of a route of a VLAN gives
pub record IsOfRoute (o : OrderedConf) (key : List ℕ) (steps : List (List ℕ)) : Type 0 where
  pub placed : PlacedVlan
  pub is_vlan : Contains o.vlans placed
  pub route : Route
  pub site : List (List ℕ)
  pub item : IsItemOf (under placed.site (codes "routes")) placed.vlan.routes site route
  pub path : steps ≡ route_site site key

-- rule 14: a route leads into the network of a VIP that packets of its VLAN are routed to
pub record LeadsInside (o : OrderedConf) (conf : Configuration) (steps : List (List ℕ)) (v : Tree) : Type 0 where
  pub at : IsOfRoute o (codes "ip_dst") steps
  pub spelled : IsNetwork v at.route.dst
  pub vip : Net
  pub is_vip : Contains (vips_in conf (routing_set conf at.placed.vlan.vid)) vip
  pub inside : LiesIn at.route.dst vip

-- or its gateway lies in no network of its VLAN's VIPs, or is one of them, or is of another family
pub record HasNoNeighbour (o : OrderedConf) (steps : List (List ℕ)) (v : Tree) : Type 0 where
  pub at : IsOfRoute o (codes "ip_gw") steps
  pub spelled : IsAddress v at.route.gw
  pub no_neighbour : (is_neighbour_address at.placed.vlan.vips at.route.gw ≡ false) ⊎ (is_same_family at.route.gw (address_of at.route.dst) ≡ false)

abbrev pub IsWrongRoute : OrderedConf → Configuration → List (List ℕ) → Tree → Type 0
IsWrongRoute o conf steps v = LeadsInside o conf steps v ⊎ HasNoNeighbour o steps v

-- rule 15: a route leads to the same network as an earlier one
pub record RepeatsRoute (o : OrderedConf) (conf : Configuration) (steps : List (List ℕ)) (v : Tree) : Type 0 where
  pub at : IsOfRoute o (codes "ip_dst") steps
  pub spelled : IsNetwork v at.route.dst
  pub meets : Meets o conf at.placed (λ w. w.routes) (λ a b. AreSame a.dst b.dst) (λ a b. AreSame a.dst b.dst) at.route
