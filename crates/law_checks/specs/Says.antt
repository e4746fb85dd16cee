-- What a raw configuration says of the document that it was read from: each value that is written and has an
-- effect, and where a key isn't written its default.
use Rattle.std.specs.Prelude.{◌≡◌, ℕ, Bool, true, false, is_some, List, [], ◌∷◌, codes, Option, None, IsSomeAnd}
use Rattle.conf_types.specs.declared.vlan.Route.{Route}
use Rattle.yaml_tree.specs.declared.tree.Key.{Key}
use Rattle.yaml_tree.specs.declared.tree.Pair.{Pair}
use Rattle.yaml_tree.specs.declared.tree.Tree.{Tree, out-Tree}
use Rattle.conf_shape.specs.declared.raw.DropFlags.{DropFlags}
use Rattle.conf_shape.specs.declared.raw.OneOrList.TheVariants as several
use Rattle.conf_shape.specs.declared.raw.PortFlags.{PortFlags}
use Rattle.conf_shape.specs.declared.raw.RawAcl.{RawAcl}
use Rattle.conf_shape.specs.declared.raw.RawAclNames.{RawAclNames}
use Rattle.conf_shape.specs.declared.raw.RawBgp.{RawBgp}
use Rattle.conf_shape.specs.declared.raw.RawConf.{RawConf}
use Rattle.conf_shape.specs.declared.raw.RawDp.{RawDp}
use Rattle.conf_shape.specs.declared.raw.RawNames.{RawNames}
use Rattle.conf_shape.specs.declared.raw.RawOutput.{RawOutput}
use Rattle.conf_shape.specs.declared.raw.RawPort.{RawPort}
use Rattle.conf_shape.specs.declared.raw.RawRouter.{RawRouter}
use Rattle.conf_shape.specs.declared.raw.RawRule.{RawRule}
use Rattle.conf_shape.specs.declared.raw.RawStackEnd.{RawStackEnd}
use Rattle.conf_shape.specs.declared.raw.RawVlan.{RawVlan}
use Rattle.conf_shape.specs.Reads.{value_at}
use Rattle.conf_shape.specs.Sections.{key_text}
use Rattle.law_checks.specs.Fields.{asked_fields, FieldsSay}
use Rattle.law_checks.specs.Values.{IsFlag, IsNumber, IsText, IsPermission, IsLabelOf, IsVlanOf, IsPortOf, IsMac, IsIdentifier, IsAddress, IsNetwork, Each, IsList, IsOneOrList, IsMap, AreMaps, Given, Needed, IsNumbered}

pub record NamesSay (key : Key) (pairs : List Pair) (names : RawNames) : Type 0 where
  pub key_is : names.key ≡ key_text key
  pub has_name : names.has_name ≡ is_some (value_at (codes "name") pairs)
  pub name : Given (codes "name") pairs (names.name ≡ names.key) (λ t. IsText t names.name)
  pub description : Given (codes "description") pairs (names.description ≡ names.name) (λ t. IsText t names.description)

pub record AclNamesSay (pairs : List Pair) (acls : RawAclNames) : Type 0 where
  pub one : Given (codes "acl_in") pairs (acls.one ≡ None) (λ t. IsSomeAnd acls.one (IsLabelOf (out-Tree t)))
  pub list : Given (codes "acls_in") pairs (acls.list ≡ None) (λ t. IsSomeAnd acls.list (IsList (λ item. IsLabelOf (out-Tree item)) t))

-- ---- flags and numbers: the key, and what stands where it isn't written

abbrev pub FlagSays : List ℕ → (default : Bool) → List Pair → Bool → Type 0
FlagSays name default pairs flag = Given name pairs (flag ≡ default) (λ t. IsFlag t flag)

abbrev pub NumberSays : List ℕ → (default : ℕ) → List Pair → ℕ → Type 0
NumberSays name default pairs number = Given name pairs (number ≡ default) (λ t. IsNumber t number)

-- ---- datapaths and interfaces

pub record PortFlagsSay (pairs : List Pair) (flags : PortFlags) : Type 0 where
  pub enabled : FlagSays (codes "enabled") true pairs flags.enabled
  pub unicast_flood : FlagSays (codes "unicast_flood") true pairs flags.unicast_flood
  pub opstatus_reconf : FlagSays (codes "opstatus_reconf") true pairs flags.opstatus_reconf
  pub output_only : FlagSays (codes "output_only") false pairs flags.output_only
  pub hairpin : FlagSays (codes "hairpin") false pairs flags.hairpin
  pub permanent_learn : FlagSays (codes "permanent_learn") false pairs flags.permanent_learn

pub record StackEndSays (pairs : List Pair) (end : RawStackEnd) : Type 0 where
  pub dp : Needed (codes "dp") pairs (λ t. IsText t end.dp)
  pub port : Needed (codes "port") pairs (λ t. IsPortOf (out-Tree t) end.port)

pub record PortSays (key : Key) (pairs : List Pair) (port : RawPort) : Type 0 where
  pub names : NamesSay key pairs port.names
  pub has_number : port.has_number ≡ is_some (value_at (codes "number") pairs)
  pub number : IsNumbered key (value_at (codes "number") pairs) port.no
  pub flags : PortFlagsSay pairs port.flags
  pub native : Given (codes "native_vlan") pairs (port.native ≡ None) (λ t. IsSomeAnd port.native (IsVlanOf (out-Tree t)))
  pub tagged : Given (codes "tagged_vlans") pairs (port.tagged ≡ []) (λ t. IsList (λ item. IsVlanOf (out-Tree item)) t port.tagged)
  pub acls : AclNamesSay pairs port.acls
  pub max_hosts : NumberSays (codes "max_hosts") 255 pairs port.max_hosts
  pub mirror : Given (codes "mirror") pairs (port.mirror ≡ several.List []) (λ t. IsOneOrList (λ item. IsPortOf (out-Tree item)) t port.mirror)
  pub stack : Given (codes "stack") pairs (port.stack ≡ None) (λ t. IsSomeAnd port.stack (IsMap StackEndSays t))

pub record DropFlagsSay (pairs : List Pair) (drops : DropFlags) : Type 0 where
  pub spoofed : FlagSays (codes "drop_spoofed_faucet_mac") true pairs drops.spoofed
  pub broadcast : FlagSays (codes "drop_broadcast_source_address") true pairs drops.broadcast
  pub bpdu : FlagSays (codes "drop_bpdu") true pairs drops.bpdu
  pub lldp : FlagSays (codes "drop_lldp") true pairs drops.lldp

-- the priority in the stack, where `stack` of a datapath gives it
abbrev pub PrioritySays : List Pair → Option ℕ → Type 0
PrioritySays pairs priority = Given (codes "priority") pairs (priority ≡ None) (λ t. IsSomeAnd priority (IsNumber t))

-- how often links are probed, where `lldp_beacon` of a datapath is given
abbrev pub LldpSays : List Pair → ℕ → Type 0
LldpSays pairs seconds = NumberSays (codes "send_interval") 5 pairs seconds

pub record DpSays (key : Key) (pairs : List Pair) (dp : RawDp) : Type 0 where
  pub names : NamesSay key pairs dp.names
  pub id : Needed (codes "dp_id") pairs (λ t. IsNumber t dp.id.0)
  pub hardware : Given (codes "hardware") pairs (dp.hardware ≡ codes "Open vSwitch") (λ t. IsText t dp.hardware)
  pub timeout : NumberSays (codes "timeout") 300 pairs dp.timeout
  pub arp_timeout : NumberSays (codes "arp_neighbor_timeout") 30 pairs dp.arp_timeout
  pub lldp : Given (codes "lldp_beacon") pairs (dp.lldp ≡ None) (λ t. IsSomeAnd dp.lldp (IsMap LldpSays t))
  pub stack_priority : Given (codes "stack") pairs (dp.stack_priority ≡ None) (λ t. IsMap PrioritySays t dp.stack_priority)
  pub drops : DropFlagsSay pairs dp.drops
  pub ports : Needed (codes "interfaces") pairs (λ t. IsMap (AreMaps PortSays) t dp.ports)

-- ---- VLANs

pub record RouteSays (pairs : List Pair) (route : Route) : Type 0 where
  pub dst : Needed (codes "ip_dst") pairs (λ t. IsNetwork t route.dst)
  pub gw : Needed (codes "ip_gw") pairs (λ t. IsAddress t route.gw)

-- an item of `routes`
abbrev pub RouteItemSays : List Pair → Route → Type 0
RouteItemSays pairs route = Needed (codes "route") pairs (λ t. IsMap RouteSays t route)

-- the address of the gateway is 0e:00:00:00:00:01 by default
pub record VlanSays (key : Key) (pairs : List Pair) (vlan : RawVlan) : Type 0 where
  pub names : NamesSay key pairs vlan.names
  pub has_vid : vlan.has_vid ≡ is_some (value_at (codes "vid") pairs)
  pub vid : IsNumbered key (value_at (codes "vid") pairs) vlan.vid
  pub acls : AclNamesSay pairs vlan.acls
  pub mac : Given (codes "faucet_mac") pairs (vlan.mac.0 ≡ 0x0e ∷ 0 ∷ 0 ∷ 0 ∷ 0 ∷ 1 ∷ []) (λ t. IsMac t vlan.mac)
  pub vips : Given (codes "faucet_vips") pairs (vlan.vips ≡ []) (λ t. IsList IsNetwork t vlan.vips)
  pub routes : Given (codes "routes") pairs (vlan.routes ≡ []) (λ t. IsList (IsMap RouteItemSays) t vlan.routes)
  pub max_hosts : NumberSays (codes "max_hosts") 255 pairs vlan.max_hosts
  pub unicast_flood : FlagSays (codes "unicast_flood") true pairs vlan.unicast_flood

-- ---- ACLs and routers

pub record OutputSays (pairs : List Pair) (output : RawOutput) : Type 0 where
  pub port : Given (codes "port") pairs (output.port ≡ None) (λ t. IsSomeAnd output.port (IsPortOf (out-Tree t)))
  pub ports : Given (codes "ports") pairs (output.ports ≡ []) (λ t. IsList (λ item. IsPortOf (out-Tree item)) t output.ports)

pub record ActionsSay (pairs : List Pair) (rule : RawRule) : Type 0 where
  pub allow : Given (codes "allow") pairs (rule.allow ≡ false) (λ t. IsPermission (out-Tree t) rule.allow)
  pub mirror : Given (codes "mirror") pairs (rule.mirror ≡ None) (λ t. IsSomeAnd rule.mirror (IsPortOf (out-Tree t)))
  pub output : Given (codes "output") pairs (rule.output ≡ several.List []) (λ t. IsOneOrList (IsMap OutputSays) t rule.output)

pub record RuleSays (pairs : List Pair) (rule : RawRule) : Type 0 where
  pub fields : FieldsSay asked_fields pairs rule.fields
  pub actions : Needed (codes "actions") pairs (λ t. IsMap ActionsSay t rule)

-- an item of an ACL
abbrev pub RuleItemSays : List Pair → RawRule → Type 0
RuleItemSays pairs rule = Needed (codes "rule") pairs (λ t. IsMap RuleSays t rule)

pub record AclSays (p : Pair) (acl : RawAcl) : Type 0 where
  pub name : acl.name ≡ key_text p.key
  pub rules : IsList (IsMap RuleItemSays) p.value acl.rules

pub record BgpSays (pairs : List Pair) (bgp : RawBgp) : Type 0 where
  pub our_as : Needed (codes "as") pairs (λ t. IsNumber t bgp.our_as)
  pub neighbor_as : Needed (codes "neighbor_as") pairs (λ t. IsNumber t bgp.neighbor_as)
  pub routerid : Needed (codes "routerid") pairs (λ t. IsIdentifier t bgp.routerid)
  pub vlan : Needed (codes "vlan") pairs (λ t. IsVlanOf (out-Tree t) bgp.vlan)

pub record RouterSays (key : Key) (pairs : List Pair) (router : RawRouter) : Type 0 where
  pub name : router.name ≡ key_text key
  pub vlans : Given (codes "vlans") pairs (router.vlans ≡ []) (λ t. IsList (λ item. IsVlanOf (out-Tree item)) t router.vlans)
  pub bgp : Given (codes "bgp") pairs (router.bgp ≡ None) (λ t. IsSomeAnd router.bgp (IsMap BgpSays t))

-- ---- the whole

pub record TopSays (pairs : List Pair) (raw : RawConf) : Type 0 where
  pub dps : Needed (codes "dps") pairs (λ t. IsMap (AreMaps DpSays) t raw.dps)
  pub vlans : Given (codes "vlans") pairs (raw.vlans ≡ []) (λ t. IsMap (AreMaps VlanSays) t raw.vlans)
  pub acls : Given (codes "acls") pairs (raw.acls ≡ []) (λ t. IsMap (Each AclSays) t raw.acls)
  pub routers : Given (codes "routers") pairs (raw.routers ≡ []) (λ t. IsMap (AreMaps RouterSays) t raw.routers)

abbrev pub Says : Tree → RawConf → Type 0
Says t raw = IsMap TopSays t raw
