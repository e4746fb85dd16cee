-- Rule 16: what there is more of than a configuration may have.
use Rattle.std.specs.Prelude.{◌≡◌, ◌⊎◌, ℕ, ◌<◌, ◌*◌, ◌+◌, true, List, map, length, sum_by, count_by, Contains}
use Rattle.std.specs.List.{AllByRecursion}
use Rattle.yaml_tree.specs.declared.tree.Tree.{Tree}
use Rattle.conf_types.specs.declared.datapath.Dp.{Dp}
use Rattle.conf_types.specs.declared.datapath.Port.{Port}
use Rattle.conf_types.specs.declared.vlan.Vlan.{Vlan}
use Rattle.conf_types.specs.Attached.{rules_of}
use Rattle.conf_types.specs.Configuration.{Configuration}
use Rattle.conf_types.specs.Families.{different_ips}
use Rattle.conf_types.specs.Membership.{has_edge_member, is_mirror_of}
use Rattle.conf_types.specs.Valid.{is_special, members_at, ports_named, attached, route_items, group_count}
use Rattle.conf_shape.specs.declared.raw.RawDp.{RawDp}
use Rattle.conf_shape.specs.declared.raw.RawPort.{RawPort}
use Rattle.conf_shape.specs.declared.raw.RawRouter.{RawRouter}
use Rattle.conf_shape.specs.declared.refused.ConfCause.TheVariants.{TooMany}
use Rattle.conf_shape.specs.declared.refused.ConfFault.{ConfFault}
use Rattle.conf_shape.specs.declared.refused.LimitName.{LimitName}
use Rattle.conf_shape.specs.declared.refused.LimitName.TheVariants as limit
use Rattle.conf_resolve.specs.declared.ordered.OrderedConf.{OrderedConf}
use Rattle.conf_resolve.specs.declared.ordered.PlacedVlan.{PlacedVlan}
use Rattle.conf_resolve.specs.InOrder.{dp_site, port_site, router_site}
use Rattle.conf_resolve.specs.Resolved.{dp_of, port_of, vlan_of, router_of}
use Rattle.conf_rules.specs.Limits.{whole_dps, whole_vlans}
use Rattle.law_documents.specs.Rules.{IsOfNumbers}
use Rattle.law_breaks.specs.Found.{PathBreaks}

-- ---- the steps lead to a part that has more of something than it may

pub record IsDatapathAbove (o : OrderedConf) (steps : List (List ℕ)) (most : ℕ) (count : Dp → ℕ) : Type 0 where
  pub dp : RawDp
  pub is_dp : Contains o.dps dp
  pub path : steps ≡ dp_site dp
  pub above : most < count (dp_of o dp)

pub record IsInterfaceAbove (o : OrderedConf) (steps : List (List ℕ)) (most : ℕ) (count : Dp → Port → ℕ) : Type 0 where
  pub dp : RawDp
  pub is_dp : Contains o.dps dp
  pub port : RawPort
  pub is_port : Contains dp.ports port
  pub path : steps ≡ port_site dp port
  pub above : most < count (dp_of o dp) (port_of o dp port)

pub record IsVlanAbove (o : OrderedConf) (steps : List (List ℕ)) (most : ℕ) (count : Vlan → ℕ) : Type 0 where
  pub placed : PlacedVlan
  pub is_vlan : Contains o.vlans placed
  pub path : steps ≡ placed.site
  pub above : most < count (vlan_of placed.vlan)

pub record IsRouterAbove (o : OrderedConf) (steps : List (List ℕ)) (most : ℕ) : Type 0 where
  pub router : RawRouter
  pub is_router : Contains o.routers router
  pub path : steps ≡ router_site router
  pub above : most < length (router_of o router).vlans

-- to all datapaths or VLANs, of which there's more
pub record AreAbove (site steps : List (List ℕ)) (most n : ℕ) : Type 0 where
  pub path : steps ≡ site
  pub above : most < n

-- ---- limit by limit

-- the ACLs of an interface have too many rules, or those of a VLAN that are attached on some datapath
abbrev pub HasTooManyRules : OrderedConf → Configuration → List (List ℕ) → Type 0
HasTooManyRules o conf steps =
    IsInterfaceAbove o steps 1000 (λ d p. length (rules_of conf p.acls))
    ⊎ ((at : IsVlanAbove o steps 1000 (λ v. length (rules_of conf v.acls))) × (d : Dp) × Contains conf.dps d × (has_edge_member d at.placed.vlan.vid ≡ true))

abbrev pub IsAbove : OrderedConf → Configuration → LimitName → List (List ℕ) → Type 0
IsAbove o conf limit.Dps steps = AreAbove whole_dps steps 64 (length conf.dps)
IsAbove o conf limit.Ports steps = IsDatapathAbove o steps 256 (λ d. length d.ports)
IsAbove o conf limit.Vlans steps = AreAbove whole_vlans steps 1024 (length conf.vlans)
IsAbove o conf limit.Mirrors steps = IsInterfaceAbove o steps 4 (λ d p. count_by (λ m. is_mirror_of m p.no) d.ports)
IsAbove o conf limit.Special steps = IsDatapathAbove o steps 16 (λ d. count_by (is_special d) d.ports)
IsAbove o conf limit.Rules steps = HasTooManyRules o conf steps
IsAbove o conf limit.AclEntries steps = IsDatapathAbove o steps 20000 (λ d. sum_by (λ rules. length rules + 1) (attached conf d))
IsAbove o conf limit.AclOutputs steps = IsDatapathAbove o steps 65536 (λ d. sum_by (λ rules. sum_by (ports_named d) rules) (attached conf d))
IsAbove o conf limit.Members steps = IsDatapathAbove o steps 8192 (λ d. sum_by (members_at conf) d.ports)
IsAbove o conf limit.Vips steps = IsVlanAbove o steps 8 (λ v. length v.vips)
IsAbove o conf limit.RouterVlans steps = IsRouterAbove o steps 16
IsAbove o conf limit.Routes steps = AreAbove whole_vlans steps 1024 (sum_by (λ v. length v.routes) conf.vlans)
IsAbove o conf limit.Gateways steps = AreAbove whole_vlans steps 1024 (group_count conf * sum_by (λ v. different_ips (map (λ r. r.gw) v.routes)) conf.vlans)
IsAbove o conf limit.RouteItems steps = AreAbove whole_vlans steps 32768 (sum_by (route_items conf) conf.vlans)

-- rule 16: the fault tells the limit that is passed where its path leads
pub record PassesLimit (t : Tree) (o : OrderedConf) (conf : Configuration) (fault : ConfFault) : Type 0 where
  pub name : LimitName
  pub cause : fault.cause ≡ TooMany name
  pub breaks : PathBreaks t (λ cause steps v. IsAbove o conf name steps) fault

-- or there are too many VLANs, of which none is written
pub record NamesTooMany (t : Tree) (conf : Configuration) (fault : ConfFault) : Type 0 where
  pub is : IsOfNumbers t fault
  pub above : 1024 < length conf.vlans

abbrev pub LimitsBreak : Tree → OrderedConf → Configuration → List ConfFault → Type 0
LimitsBreak t o conf faults = AllByRecursion (λ fault. PassesLimit t o conf fault ⊎ NamesTooMany t conf fault) faults
