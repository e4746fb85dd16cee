-- Of a document, no two raw configurations say what is written: part by part, the least first.
use Rattle.std.proofs.Common.{◌≡◌, ℕ, true, false, List, [], ◌∷◌, Option, Some, None, refl, sym, ◌∙◌, subst}
use Rattle.std.specs.Prelude.{codes, IsSomeAnd, MatchOption}
use Rattle.net_base.specs.declared.address.Mac.{Mac}
use Rattle.yaml_tree.specs.declared.tree.Key.{Key}
use Rattle.yaml_tree.specs.declared.tree.Pair.{Pair}
use Rattle.yaml_tree.specs.declared.tree.Tree.{Tree, out-Tree}
use Rattle.conf_shape.specs.declared.raw.OneOrList.TheVariants as several
use Rattle.conf_shape.specs.declared.raw.RawConf.{RawConf}
use Rattle.conf_shape.specs.declared.raw.RawRule.{RawRule}
use Rattle.conf_shape.specs.Reads.{value_at}
use Rattle.law_checks.specs.Values.{IsNumber, IsText, IsPermission, IsLabelOf, IsVlanOf, IsPortOf, IsMac, IsIdentifier, IsAddress, IsNetwork, Each, IsList, IsOneOrList, IsMap, AreMaps, Given, Needed}
use Rattle.law_checks.specs.Fields.{asked_fields}
use Rattle.law_checks.specs.Says.{NumberSays, NamesSay, AclNamesSay, PortFlagsSay, StackEndSays, PortSays, DropFlagsSay, PrioritySays, LldpSays, DpSays, RouteSays, RouteItemSays, VlanSays, OutputSays, ActionsSay, RuleSays, RuleItemSays, AclSays, BgpSays, RouterSays, TopSays, Says}
use Rattle.law_checks.proofs.Alone.{IsOne, number_one, text_one, permission_one, label_one, vlan_one, port_one, mac_one, identifier_one, address_one, network_one, each_one, list_one, several_one, entries_one, map_one, maps_one, port_no_list, map_no_list, given_one, needed_one, some_one, numbered_one}
use Rattle.law_checks.proofs.AloneFields.{fields_one}
use Rattle.law_checks.proofs.Flags.{flag_alone}

-- ---- keys

module _ (pairs : List Pair) (name : List ℕ) where
  same : {A : Type 0} (P : Tree → A → Type 0) → IsOne P → (default a b : A) → Given name pairs (a ≡ default) (λ t. P t a) → Given name pairs (b ≡ default) (λ t. P t b) → a ≡ b
  same P one default a b h k = given_one P one (value_at name pairs) default default a b refl h k

  same_number : (default a b : ℕ) → NumberSays name default pairs a → NumberSays name default pairs b → a ≡ b
  same_number default a b h k = same IsNumber number_one default a b h k

  same_needed : {A : Type 0} (P : Tree → A → Type 0) → IsOne P → (a b : A) → Needed name pairs (λ t. P t a) → Needed name pairs (λ t. P t b) → a ≡ b
  same_needed P one a b h k = needed_one P one (value_at name pairs) a b h k

names_one : (key : Key) → IsOne (NamesSay key)
names_one key pairs a b h k =
    let key_is : a.key ≡ b.key = h.key_is ∙ sym k.key_is in
    let has : a.has_name ≡ b.has_name = h.has_name ∙ sym k.has_name in
    let name = given_one IsText text_one (value_at (codes "name") pairs) a.key b.key a.name b.name key_is h.name k.name in
    let description = given_one IsText text_one (value_at (codes "description") pairs) a.name b.name a.description b.description name h.description k.description in
    λ i. record { key = key_is i; has_name = has i; name = name i; description = description i }

acl_names_one : IsOne AclNamesSay
acl_names_one pairs a b h k =
    let one = same pairs (codes "acl_in") (λ t name. IsSomeAnd name (IsLabelOf (out-Tree t))) (some_one (λ t. IsLabelOf (out-Tree t)) label_one) None a.one b.one h.one k.one in
    let list = same pairs (codes "acls_in") (λ t names. IsSomeAnd names (IsList (λ item. IsLabelOf (out-Tree item)) t)) (some_one (IsList (λ item. IsLabelOf (out-Tree item))) (list_one (λ item. IsLabelOf (out-Tree item)) label_one)) None a.list b.list h.list k.list in
    λ i. record { one = one i; list = list i }

-- ---- interfaces and datapaths

port_flags_one : IsOne PortFlagsSay
port_flags_one pairs a b h k =
    let enabled = flag_alone (codes "enabled") true pairs a.enabled b.enabled h.enabled k.enabled in
    let unicast = flag_alone (codes "unicast_flood") true pairs a.unicast_flood b.unicast_flood h.unicast_flood k.unicast_flood in
    let opstatus = flag_alone (codes "opstatus_reconf") true pairs a.opstatus_reconf b.opstatus_reconf h.opstatus_reconf k.opstatus_reconf in
    let output = flag_alone (codes "output_only") false pairs a.output_only b.output_only h.output_only k.output_only in
    let hairpin = flag_alone (codes "hairpin") false pairs a.hairpin b.hairpin h.hairpin k.hairpin in
    let permanent = flag_alone (codes "permanent_learn") false pairs a.permanent_learn b.permanent_learn h.permanent_learn k.permanent_learn in
    λ i. record { enabled = enabled i; unicast_flood = unicast i; opstatus_reconf = opstatus i; output_only = output i; hairpin = hairpin i; permanent_learn = permanent i }

stack_end_one : IsOne StackEndSays
stack_end_one pairs a b h k =
    let dp = same_needed pairs (codes "dp") IsText text_one a.dp b.dp h.dp k.dp in
    let port = same_needed pairs (codes "port") (λ t. IsPortOf (out-Tree t)) port_one a.port b.port h.port k.port in
    λ i. record { dp = dp i; port = port i }

port_says_one : (key : Key) → IsOne (PortSays key)
port_says_one key pairs a b h k =
    let names = names_one key pairs a.names b.names h.names k.names in
    let has : a.has_number ≡ b.has_number = h.has_number ∙ sym k.has_number in
    let no_is = numbered_one key (value_at (codes "number") pairs) a.no b.no h.number k.number in
    let flags = port_flags_one pairs a.flags b.flags h.flags k.flags in
    let native = same pairs (codes "native_vlan") (λ t native. IsSomeAnd native (IsVlanOf (out-Tree t))) (some_one (λ t. IsVlanOf (out-Tree t)) vlan_one) None a.native b.native h.native k.native in
    let tagged = same pairs (codes "tagged_vlans") (IsList (λ item. IsVlanOf (out-Tree item))) (list_one (λ item. IsVlanOf (out-Tree item)) vlan_one) [] a.tagged b.tagged h.tagged k.tagged in
    let acls = acl_names_one pairs a.acls b.acls h.acls k.acls in
    let hosts = same_number pairs (codes "max_hosts") 255 a.max_hosts b.max_hosts h.max_hosts k.max_hosts in
    let mirror = same pairs (codes "mirror") (IsOneOrList (λ item. IsPortOf (out-Tree item))) (several_one (λ item. IsPortOf (out-Tree item)) port_one port_no_list) (several.List []) a.mirror b.mirror h.mirror k.mirror in
    let stack = same pairs (codes "stack") (λ t end. IsSomeAnd end (IsMap StackEndSays t)) (some_one (IsMap StackEndSays) (map_one StackEndSays stack_end_one)) None a.stack b.stack h.stack k.stack in
    λ i. record { names = names i; has_number = has i; no = no_is i; flags = flags i; native = native i; tagged = tagged i; acls = acls i; max_hosts = hosts i; mirror = mirror i; stack = stack i }

drops_one : IsOne DropFlagsSay
drops_one pairs a b h k =
    let spoofed = flag_alone (codes "drop_spoofed_faucet_mac") true pairs a.spoofed b.spoofed h.spoofed k.spoofed in
    let broadcast = flag_alone (codes "drop_broadcast_source_address") true pairs a.broadcast b.broadcast h.broadcast k.broadcast in
    let bpdu = flag_alone (codes "drop_bpdu") true pairs a.bpdu b.bpdu h.bpdu k.bpdu in
    let lldp = flag_alone (codes "drop_lldp") true pairs a.lldp b.lldp h.lldp k.lldp in
    λ i. record { spoofed = spoofed i; broadcast = broadcast i; bpdu = bpdu i; lldp = lldp i }

priority_one : IsOne PrioritySays
priority_one pairs a b h k = same pairs (codes "priority") (λ t priority. IsSomeAnd priority (IsNumber t)) (some_one IsNumber number_one) None a b h k

lldp_one : IsOne LldpSays
lldp_one pairs a b h k = same_number pairs (codes "send_interval") 5 a b h k

dp_says_one : (key : Key) → IsOne (DpSays key)
dp_says_one key pairs a b h k =
    let names = names_one key pairs a.names b.names h.names k.names in
    let id = same_needed pairs (codes "dp_id") IsNumber number_one a.id.0 b.id.0 h.id k.id in
    let hardware = same pairs (codes "hardware") IsText text_one (codes "Open vSwitch") a.hardware b.hardware h.hardware k.hardware in
    let timeout = same_number pairs (codes "timeout") 300 a.timeout b.timeout h.timeout k.timeout in
    let arp = same_number pairs (codes "arp_neighbor_timeout") 30 a.arp_timeout b.arp_timeout h.arp_timeout k.arp_timeout in
    let priority = same pairs (codes "stack") (IsMap PrioritySays) (map_one PrioritySays priority_one) None a.stack_priority b.stack_priority h.stack_priority k.stack_priority in
    let lldp = same pairs (codes "lldp_beacon") (λ t lldp. IsSomeAnd lldp (IsMap LldpSays t)) (some_one (IsMap LldpSays) (map_one LldpSays lldp_one)) None a.lldp b.lldp h.lldp k.lldp in
    let drops = drops_one pairs a.drops b.drops h.drops k.drops in
    let ports = same_needed pairs (codes "interfaces") (IsMap (AreMaps PortSays)) (map_one (AreMaps PortSays) (maps_one PortSays port_says_one)) a.ports b.ports h.ports k.ports in
    λ i. record { names = names i; id = record { 0 = id i }; hardware = hardware i; timeout = timeout i; arp_timeout = arp i; stack_priority = priority i; lldp = lldp i; drops = drops i; ports = ports i }

-- ---- VLANs

route_one : IsOne RouteSays
route_one pairs a b h k =
    let dst = same_needed pairs (codes "ip_dst") IsNetwork network_one a.dst b.dst h.dst k.dst in
    let gw = same_needed pairs (codes "ip_gw") IsAddress address_one a.gw b.gw h.gw k.gw in
    λ i. record { dst = dst i; gw = gw i }

route_item_one : IsOne RouteItemSays
route_item_one pairs a b h k = same_needed pairs (codes "route") (IsMap RouteSays) (map_one RouteSays route_one) a b h k

-- where no address is written, its bytes are the default's
mac_same : (pairs : List Pair) (default : List ℕ) (a b : Mac) → Given (codes "faucet_mac") pairs (a.0 ≡ default) (λ t. IsMac t a) → Given (codes "faucet_mac") pairs (b.0 ≡ default) (λ t. IsMac t b) → a ≡ b
mac_same pairs default a b h k = by (value_at (codes "faucet_mac") pairs) h k
  where
    by : (o : Option Tree) → MatchOption o (a.0 ≡ default) (λ t. IsMac t a) → MatchOption o (b.0 ≡ default) (λ t. IsMac t b) → a ≡ b
    by None h k = let e : a.0 ≡ b.0 = h ∙ sym k in λ i. record { 0 = e i }
    by (Some t) h k = mac_one t a b h k

vlan_says_one : (key : Key) → IsOne (VlanSays key)
vlan_says_one key pairs a b h k =
    let names = names_one key pairs a.names b.names h.names k.names in
    let has : a.has_vid ≡ b.has_vid = h.has_vid ∙ sym k.has_vid in
    let vid = numbered_one key (value_at (codes "vid") pairs) a.vid b.vid h.vid k.vid in
    let acls = acl_names_one pairs a.acls b.acls h.acls k.acls in
    let mac = mac_same pairs (0x0e ∷ 0 ∷ 0 ∷ 0 ∷ 0 ∷ 1 ∷ []) a.mac b.mac h.mac k.mac in
    let vips = same pairs (codes "faucet_vips") (IsList IsNetwork) (list_one IsNetwork network_one) [] a.vips b.vips h.vips k.vips in
    let routes = same pairs (codes "routes") (IsList (IsMap RouteItemSays)) (list_one (IsMap RouteItemSays) (map_one RouteItemSays route_item_one)) [] a.routes b.routes h.routes k.routes in
    let hosts = same_number pairs (codes "max_hosts") 255 a.max_hosts b.max_hosts h.max_hosts k.max_hosts in
    let flood = flag_alone (codes "unicast_flood") true pairs a.unicast_flood b.unicast_flood h.unicast_flood k.unicast_flood in
    λ i. record { names = names i; has_vid = has i; vid = vid i; acls = acls i; mac = mac i; vips = vips i; routes = routes i; max_hosts = hosts i; unicast_flood = flood i }

-- ---- ACLs and routers

output_one : IsOne OutputSays
output_one pairs a b h k =
    let port = same pairs (codes "port") (λ t port. IsSomeAnd port (IsPortOf (out-Tree t))) (some_one (λ t. IsPortOf (out-Tree t)) port_one) None a.port b.port h.port k.port in
    let ports = same pairs (codes "ports") (IsList (λ item. IsPortOf (out-Tree item))) (list_one (λ item. IsPortOf (out-Tree item)) port_one) [] a.ports b.ports h.ports k.ports in
    λ i. record { port = port i; ports = ports i }

actions_one : (pairs : List Pair) (a b : RawRule) → a.fields ≡ b.fields → ActionsSay pairs a → ActionsSay pairs b → a ≡ b
actions_one pairs a b fields h k =
    let allow = same pairs (codes "allow") (λ t allow. IsPermission (out-Tree t) allow) permission_one false a.allow b.allow h.allow k.allow in
    let mirror = same pairs (codes "mirror") (λ t port. IsSomeAnd port (IsPortOf (out-Tree t))) (some_one (λ t. IsPortOf (out-Tree t)) port_one) None a.mirror b.mirror h.mirror k.mirror in
    let output = same pairs (codes "output") (IsOneOrList (IsMap OutputSays)) (several_one (IsMap OutputSays) (map_one OutputSays output_one) (map_no_list OutputSays)) (several.List []) a.output b.output h.output k.output in
    λ i. record { fields = fields i; allow = allow i; mirror = mirror i; output = output i }

rule_one : IsOne RuleSays
rule_one pairs a b h k = by (value_at (codes "actions") pairs) h.actions k.actions
  where
    by : (o : Option Tree) → IsSomeAnd o (λ t. IsMap ActionsSay t a) → IsSomeAnd o (λ t. IsMap ActionsSay t b) → a ≡ b
    by None h k = absurd h
    by (Some t) x y = actions_one x.0 a b (fields_one asked_fields pairs a.fields b.fields h.fields k.fields) x.2 (subst (λ pairs. ActionsSay pairs b) (sym (entries_one (out-Tree t) x.0 y.0 x.1 y.1)) y.2)

rule_item_one : IsOne RuleItemSays
rule_item_one pairs a b h k = same_needed pairs (codes "rule") (IsMap RuleSays) (map_one RuleSays rule_one) a b h k

acl_says_one : IsOne AclSays
acl_says_one p a b h k =
    let name : a.name ≡ b.name = h.name ∙ sym k.name in
    let rules = list_one (IsMap RuleItemSays) (map_one RuleItemSays rule_item_one) p.value a.rules b.rules h.rules k.rules in
    λ i. record { name = name i; rules = rules i }

bgp_says_one : IsOne BgpSays
bgp_says_one pairs a b h k =
    let ours = same_needed pairs (codes "as") IsNumber number_one a.our_as b.our_as h.our_as k.our_as in
    let theirs = same_needed pairs (codes "neighbor_as") IsNumber number_one a.neighbor_as b.neighbor_as h.neighbor_as k.neighbor_as in
    let id = same_needed pairs (codes "routerid") IsIdentifier identifier_one a.routerid b.routerid h.routerid k.routerid in
    let vlan = same_needed pairs (codes "vlan") (λ t. IsVlanOf (out-Tree t)) vlan_one a.vlan b.vlan h.vlan k.vlan in
    λ i. record { our_as = ours i; neighbor_as = theirs i; routerid = id i; vlan = vlan i }

router_says_one : (key : Key) → IsOne (RouterSays key)
router_says_one key pairs a b h k =
    let name : a.name ≡ b.name = h.name ∙ sym k.name in
    let vlans = same pairs (codes "vlans") (IsList (λ item. IsVlanOf (out-Tree item))) (list_one (λ item. IsVlanOf (out-Tree item)) vlan_one) [] a.vlans b.vlans h.vlans k.vlans in
    let bgp = same pairs (codes "bgp") (λ t bgp. IsSomeAnd bgp (IsMap BgpSays t)) (some_one (IsMap BgpSays) (map_one BgpSays bgp_says_one)) None a.bgp b.bgp h.bgp k.bgp in
    λ i. record { name = name i; vlans = vlans i; bgp = bgp i }

-- ---- the whole

top_one : IsOne TopSays
top_one pairs a b h k =
    let dps = same_needed pairs (codes "dps") (IsMap (AreMaps DpSays)) (map_one (AreMaps DpSays) (maps_one DpSays dp_says_one)) a.dps b.dps h.dps k.dps in
    let vlans = same pairs (codes "vlans") (IsMap (AreMaps VlanSays)) (map_one (AreMaps VlanSays) (maps_one VlanSays vlan_says_one)) [] a.vlans b.vlans h.vlans k.vlans in
    let acls = same pairs (codes "acls") (IsMap (Each AclSays)) (map_one (Each AclSays) (each_one AclSays acl_says_one)) [] a.acls b.acls h.acls k.acls in
    let routers = same pairs (codes "routers") (IsMap (AreMaps RouterSays)) (map_one (AreMaps RouterSays) (maps_one RouterSays router_says_one)) [] a.routers b.routers h.routers k.routers in
    λ i. record { dps = dps i; vlans = vlans i; acls = acls i; routers = routers i }

pub document_alone : (t : Tree) (raw other : RawConf) → Says t raw → Says t other → raw ≡ other
document_alone t raw other h k = map_one TopSays top_one t raw other h k
