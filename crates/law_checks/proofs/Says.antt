-- A raw configuration says what its document says, part by part, the least first.
use Rattle.std.proofs.Common.{◌≡◌, ℕ, ◌-◌, ◌^◌, ◌≤◌, Bool, true, false, List, [], ◌∷◌, Option, Some, None, Ok, refl, sym, subst, arith}
use Rattle.std.specs.Prelude.{map, codes, IfSome, IsSomeAnd, MatchOption, unwrap_or, option_and_then}
use Rattle.std.specs.Option.{option_map, option_map_or}
use Rattle.net_base.specs.AddressReading.{spelled_mac, pair_at, next_at}
use Rattle.yaml_tree.specs.declared.tree.Key.{Key}
use Rattle.yaml_tree.specs.declared.tree.Pair.{Pair}
use Rattle.yaml_tree.specs.declared.tree.Tree.{Tree, out-Tree}
use Rattle.conf_types.specs.declared.acl.PortRef.TheVariants as port_refs
use Rattle.conf_types.specs.declared.vlan.Route.{Route}
use Rattle.conf_shape.specs.declared.refused.ConfCause.TheVariants.{OutOfRange}
use Rattle.conf_shape.specs.declared.kinds.Kind.{Kind}
use Rattle.conf_shape.specs.declared.kinds.Kind.TheVariants.{One, Several, OneOrSeveral, Given, Map, Maps, MapOrMaps}
use Rattle.conf_shape.specs.declared.kinds.TheConstants.{MOST_VID, MOST_PORT_NO, VLAN_NAMED, PORT_NAMED}
use Rattle.conf_shape.specs.declared.kinds.MapKind.{MapKind}
use Rattle.conf_shape.specs.declared.kinds.MapKind.TheVariants as maps
use Rattle.conf_shape.specs.declared.kinds.Need.TheVariants.{Always, UnlessNumbered}
use Rattle.conf_shape.specs.declared.kinds.Scalar.{Scalar}
use Rattle.conf_shape.specs.declared.kinds.Scalar.TheVariants.{Flag, Number, Name, Words, Label, Permission, StationMac, Vip, Destination, Gateway, Identifier}
use Rattle.conf_shape.specs.declared.raw.OneOrList.TheVariants as several
use Rattle.conf_shape.specs.declared.raw.RawConf.{RawConf}
use Rattle.conf_shape.specs.declared.raw.RawOutput.{RawOutput}
use Rattle.conf_shape.specs.declared.raw.RawRule.{RawRule}
use Rattle.conf_shape.specs.declared.raw.RawStackEnd.{RawStackEnd}
use Rattle.conf_shape.specs.declared.raw.VlanRef.TheVariants as vlan_refs
use Rattle.conf_shape.specs.Faults.{faults_of, first_fault}
use Rattle.conf_shape.specs.Keys.{Nothing, OwnKey, row, keys_of}
use Rattle.conf_shape.specs.Raw.{acls_at, names_by, port_flags, port_with, port_of_entry, drop_flags, lldp_interval, datapath_with, datapath_of_entry, vip_of, route_of, mac_at, vlan_with, vlan_of_entry, output_of, rule_with, rule_of, acl_of_entry, bgp_with, bgp_of, router_with, router_of_entry, raw_of}
use Rattle.conf_shape.specs.Reads.{value_at, permission_of, number_of, text_of, words_of, items_of, entries_of, words_at, entries_at, option_at, list_at, one_or_list_of, number_under, default_of, default_flag, default_number, default_text, flag_at, number_at, text_at, label_of, port_of, vlan_of}
use Rattle.conf_shape.specs.Sections.{key_text, row_at, named_kind, number_or_name}
use Rattle.conf_shape.specs.Values.{mac_of, net_of, ip_of, identifier_of}
use Rattle.conf_shape.specs.Written.{IsRight, Takes, IsTextAlone}
use Rattle.law_checks.specs.Values as says
use Rattle.law_checks.specs.Values.{IsNumber, IsText, IsPermission, IsLabelOf, IsVlanOf, IsPortOf, IsMac, IsIdentifier, IsAddress, IsNetwork, Each, IsList, IsOneOrList, IsMap, AreMaps, Needed, IsNumbered}
use Rattle.law_checks.specs.Says.{FlagSays, NumberSays, NamesSay, AclNamesSay, PortFlagsSay, StackEndSays, PortSays, DropFlagsSay, PrioritySays, LldpSays, DpSays, RouteSays, RouteItemSays, VlanSays, OutputSays, ActionsSay, RuleSays, RuleItemSays, AclSays, BgpSays, RouterSays, TopSays, Says}
use Rattle.law_checks.proofs.Right.{document_fine, each_right, value_right}
use Rattle.law_checks.proofs.Values.{named_right}
use Rattle.law_checks.proofs.KeyRanges.{port_takes, vlan_takes, once_right}
use Rattle.law_checks.proofs.Asked.{fields_say}
use Rattle.law_checks.proofs.Bounds.{least_of, most_of, ranged, HasRange, HasDefault, dp_id_range, priority_range, our_as_range, neighbor_as_range, timeout_default, arp_timeout_default, port_hosts_default, vlan_hosts_default, send_interval_default}
use Rattle.law_checks.proofs.Flags.{flag_says}
use Rattle.law_checks.proofs.Stands.{stands, is_there, needed_there, number_stands, option_number_stands, text_stands, permission_stands, label_stands, vlan_stands, port_stands, mac_stands, vip_stands, destination_stands, gateway_stands, identifier_stands, each_map, list_stands, map_stands, ports_stand, maps_stand, IsRightBy, numbered_stands, numbered_found}

-- ---- keys

-- what stands under a key that always stands
needed : {A : Type 0} (m : MapKind) (name : List ℕ) (kind : Kind) → row_at name (keys_of m).rows ≡ Some (row name kind Always Nothing) → Takes m name kind
    → (P : Tree → A → Type 0) (read : Option Tree → A) → ((t : Tree) → faults_of t kind ≡ [] → P t (read (Some t))) → (pairs : List Pair) → IsRight m pairs → Needed name pairs (λ t. P t (read (value_at name pairs)))
needed m name kind at takes P read some pairs right = is_there P kind read some (value_at name pairs) (needed_there m (row name kind Always Nothing) at (λ keys. refl) pairs right) (value_right m name kind takes pairs right)

module _ (m : MapKind) (name : List ℕ) (pairs : List Pair) where
  number_says : HasDefault m name → IfSome (value_at name pairs) (λ t. faults_of t (One (ranged m name)) ≡ []) → NumberSays name (default_number (default_of m name)) pairs (number_at m name pairs)
  number_says is h =
      let default = default_number (default_of m name) in
      let small : most_of m name ≤ 2 ^ 32 - 1 = omega (arith, is.range.small) in
      stands IsNumber (One (ranged m name)) (λ o. unwrap_or (option_and_then (number_of 0 (2 ^ 32 - 1)) o) default) default refl (λ t h. number_stands (least_of m name) (most_of m name) (2 ^ 32 - 1) small t h default) (value_at name pairs) h

  -- a number with no default, where it is written and where it has to be
  wide : (bits : ℕ) → HasRange bits m name → most_of m name ≤ 2 ^ bits - 1
  wide bits range = omega (arith, range.small)

  number_given : (bits : ℕ) → HasRange bits m name → IsRight m pairs → says.Given name pairs (number_under bits name pairs ≡ None) (λ t. IsSomeAnd (number_under bits name pairs) (IsNumber t))
  number_given bits range right =
      stands (λ t n. IsSomeAnd n (IsNumber t)) (One (ranged m name)) (option_and_then (number_of 0 (2 ^ bits - 1))) None refl (option_number_stands (least_of m name) (most_of m name) (2 ^ bits - 1) (wide bits range)) (value_at name pairs)
      (value_right m name (One (ranged m name)) range.takes pairs right)

  number_needed : (bits : ℕ) → HasRange bits m name → row_at name (keys_of m).rows ≡ Some (row name (One (ranged m name)) Always Nothing) → IsRight m pairs → Needed name pairs (λ t. IsNumber t (unwrap_or (number_under bits name pairs) 0))
  number_needed bits range at right =
      needed m name (One (ranged m name)) at range.takes IsNumber (λ o. unwrap_or (option_and_then (number_of 0 (2 ^ bits - 1)) o) 0) (λ t h. number_stands (least_of m name) (most_of m name) (2 ^ bits - 1) (wide bits range) t h 0) pairs right

  text_says : (s : Scalar) (own default : List ℕ) → IsTextAlone s → default_text own (default_of m name) ≡ default → IfSome (value_at name pairs) (λ t. faults_of t (One s) ≡ []) → says.Given name pairs (text_at m name own pairs ≡ default) (λ t. IsText t (text_at m name own pairs))
  text_says s own default alone is h = stands IsText (One s) (λ o. unwrap_or (option_and_then text_of o) (default_text own (default_of m name))) default is (text_stands s alone (default_text own (default_of m name))) (value_at name pairs) h

names_say : (m : MapKind) (key : Key) (pairs : List Pair) → ((own : List ℕ) → default_text own (default_of m (codes "name")) ≡ own) → ((own : List ℕ) → default_text own (default_of m (codes "description")) ≡ own)
    → IfSome (value_at (codes "name") pairs) (λ t. faults_of t (One Name) ≡ []) → IfSome (value_at (codes "description") pairs) (λ t. faults_of t (One Name) ≡ []) → NamesSay key pairs (names_by m (key_text key) pairs)
names_say m key pairs own_key own_name name description = record {
  key_is = refl;
  has_name = refl;
  name = text_says m (codes "name") pairs Name (key_text key) (key_text key) (record { no_flag = refl; no_number = λ n. refl }) (own_key (key_text key)) name;
  description =
      let own : List ℕ = (names_by m (key_text key) pairs).name in
      text_says m (codes "description") pairs Name own own (record { no_flag = refl; no_number = λ n. refl }) (own_name own) description;
}

acls_say : (pairs : List Pair) → IfSome (value_at (codes "acl_in") pairs) (λ t. faults_of t (One Label) ≡ []) → IfSome (value_at (codes "acls_in") pairs) (λ t. faults_of t (Several Label) ≡ []) → AclNamesSay pairs (acls_at pairs)
acls_say pairs one list = record {
  one = stands (λ t name. IsSomeAnd name (IsLabelOf (out-Tree t))) (One Label) (option_map label_of) None refl label_stands (value_at (codes "acl_in") pairs) one;
  list = stands (λ t names. IsSomeAnd names (IsList (λ item. IsLabelOf (out-Tree item)) t)) (Several Label) (option_map (λ t. map label_of (items_of t))) None refl
      (list_stands (λ item. IsLabelOf (out-Tree item)) label_of (One Label) label_stands (Several Label) refl refl refl) (value_at (codes "acls_in") pairs) list;
}

vlans_stand : (t : Tree) → faults_of t (Several VLAN_NAMED) ≡ [] → IsList (λ item. IsVlanOf (out-Tree item)) t (map vlan_of (items_of t))
vlans_stand t h = list_stands (λ item. IsVlanOf (out-Tree item)) vlan_of (One VLAN_NAMED) vlan_stands (Several VLAN_NAMED) refl refl refl t h

-- ---- interfaces

abbrev end_with : List Pair → RawStackEnd
end_with pairs = record { dp = words_at (codes "dp") pairs; port = unwrap_or (option_at port_of (codes "port") pairs) (port_refs.Name []) }

end_says : (pairs : List Pair) → IsRight maps.PortStack pairs → StackEndSays pairs (end_with pairs)
end_says pairs right = record {
  dp = needed maps.PortStack (codes "dp") (One Words) refl refl IsText (λ o. option_map_or words_of o []) (text_stands Words (record { no_flag = refl; no_number = λ n. refl }) []) pairs right;
  port = needed maps.PortStack (codes "port") (One PORT_NAMED) refl refl (λ t. IsPortOf (out-Tree t)) (λ o. unwrap_or (option_map port_of o) (port_refs.Name [])) port_stands pairs right;
}

module _ (number : Option ℕ) (pairs : List Pair) (right : IsRight (maps.Interface number) pairs) where
  port_takes_one : (name : List ℕ) (s : Scalar) → Takes (maps.Interface None) name (One s) → ((n : ℕ) → Takes (maps.Interface (Some n)) name (One s)) → IfSome (value_at name pairs) (λ t. faults_of t (One s) ≡ [])
  port_takes_one name s none some = port_takes number name (One s) none some pairs right

  port_flag : (name : List ℕ) → Takes (maps.Interface None) name (One Flag) → ((n : ℕ) → Takes (maps.Interface (Some n)) name (One Flag)) → FlagSays name (default_flag (default_of (maps.Interface None) name)) pairs (flag_at (maps.Interface None) name pairs)
  port_flag name none some = flag_says (maps.Interface None) name pairs (port_takes_one name Flag none some)

  port_flags_say : PortFlagsSay pairs (port_flags pairs)
  unfolding default_of
  port_flags_say = record {
    enabled = port_flag (codes "enabled") refl (λ n. refl);
    unicast_flood = port_flag (codes "unicast_flood") refl (λ n. refl);
    opstatus_reconf = port_flag (codes "opstatus_reconf") refl (λ n. refl);
    output_only = port_flag (codes "output_only") refl (λ n. refl);
    hairpin = port_flag (codes "hairpin") refl (λ n. refl);
    permanent_learn = port_flag (codes "permanent_learn") refl (λ n. refl);
  }

  port_names_say : (key : Key) → NamesSay key pairs (names_by (maps.Interface None) (key_text key) pairs)
  unfolding default_of
  port_names_say key = names_say (maps.Interface None) key pairs (λ own. refl) (λ own. refl) (port_takes_one (codes "name") Name refl (λ n. refl)) (port_takes_one (codes "description") Name refl (λ n. refl))

  port_hosts_say : NumberSays (codes "max_hosts") 255 pairs (number_at (maps.Interface None) (codes "max_hosts") pairs)
  unfolding default_of
  port_hosts_say = number_says (maps.Interface None) (codes "max_hosts") pairs port_hosts_default (port_takes_one (codes "max_hosts") (ranged (maps.Interface None) (codes "max_hosts")) refl (λ n. refl))

port_number_right : (number : Option ℕ) (pairs : List Pair) → IsRight (maps.Interface number) pairs → IsRightBy 1 MOST_PORT_NO number (value_at (codes "number") pairs)
port_number_right None pairs right = (needed_there (maps.Interface None) (row (codes "number") (Given 1 MOST_PORT_NO) UnlessNumbered OwnKey) refl (λ keys. refl) pairs right, value_right (maps.Interface None) (codes "number") (Given 1 MOST_PORT_NO) refl pairs right)
port_number_right (Some n) pairs right = value_right (maps.Interface (Some n)) (codes "number") (One (Number n n)) refl pairs right

port_says : (key : Key) (number : Option ℕ) → number_or_name 1 MOST_PORT_NO key ≡ Ok number → (pairs : List Pair) → IsRight (maps.Interface number) pairs → PortSays key pairs (port_with key pairs)
port_says key number found pairs right = record {
  names = port_names_say number pairs right key;
  has_number = refl;
  number = numbered_stands 1 MOST_PORT_NO key number found (value_at (codes "number") pairs) (port_number_right number pairs right);
  flags = port_flags_say number pairs right;
  native = stands (λ t native. IsSomeAnd native (IsVlanOf (out-Tree t))) (One VLAN_NAMED) (option_map vlan_of) None refl vlan_stands (value_at (codes "native_vlan") pairs) (port_takes_one number pairs right (codes "native_vlan") VLAN_NAMED refl (λ n. refl));
  tagged = stands (IsList (λ item. IsVlanOf (out-Tree item))) (Several VLAN_NAMED) (λ o. map vlan_of (option_map_or items_of o [])) [] refl vlans_stand
      (value_at (codes "tagged_vlans") pairs) (port_takes number (codes "tagged_vlans") (Several VLAN_NAMED) refl (λ n. refl) pairs right);
  acls = acls_say pairs (port_takes_one number pairs right (codes "acl_in") Label refl (λ n. refl)) (port_takes number (codes "acls_in") (Several Label) refl (λ n. refl) pairs right);
  max_hosts = port_hosts_say number pairs right;
  mirror = stands (IsOneOrList (λ item. IsPortOf (out-Tree item))) (OneOrSeveral PORT_NAMED) (λ o. option_map_or (one_or_list_of port_of) o (several.List [])) (several.List []) refl ports_stand
      (value_at (codes "mirror") pairs) (port_takes number (codes "mirror") (OneOrSeveral PORT_NAMED) refl (λ n. refl) pairs right);
  stack = stands (λ t end. IsSomeAnd end (IsMap StackEndSays t)) (Map maps.PortStack) (option_map (λ t. end_with (entries_of t))) None refl (map_stands StackEndSays maps.PortStack end_with end_says) (value_at (codes "stack") pairs) (port_takes number (codes "stack") (Map maps.PortStack) refl (λ n. refl) pairs right);
}

ports_say : (pairs : List Pair) → IsRight maps.Interfaces pairs → AreMaps PortSays pairs (map port_of_entry pairs)
ports_say pairs right =
    each_map (λ p port. IsMap (PortSays p.key) p.value port) port_of_entry pairs
    (each_right maps.Interfaces (λ p. IsMap (PortSays p.key) p.value (port_of_entry p)) (λ earlier p h.
    let k = numbered_found 1 MOST_PORT_NO maps.Interface p.key h.0 h.1 in
    map_stands (PortSays p.key) (maps.Interface k.0) (port_with p.key) (port_says p.key k.0 k.1) p.value (subst (λ kind. faults_of p.value kind ≡ []) k.2 h.2)) [] pairs right)

-- ---- datapaths

priority_says : (pairs : List Pair) → IsRight maps.DatapathStack pairs → PrioritySays pairs (number_under 32 (codes "priority") pairs)
priority_says pairs right = number_given maps.DatapathStack (codes "priority") pairs 32 priority_range right

lldp_says : (pairs : List Pair) → IsRight maps.LldpBeacon pairs → LldpSays pairs (number_at maps.LldpBeacon (codes "send_interval") pairs)
unfolding default_of
lldp_says pairs right =
    number_says maps.LldpBeacon (codes "send_interval") pairs send_interval_default (value_right maps.LldpBeacon (codes "send_interval") (One (ranged maps.LldpBeacon (codes "send_interval"))) refl pairs right)

module _ (pairs : List Pair) (right : IsRight maps.Datapath pairs) where
  dp_takes : (name : List ℕ) (s : Scalar) → Takes maps.Datapath name (One s) → IfSome (value_at name pairs) (λ t. faults_of t (One s) ≡ [])
  dp_takes name s takes = value_right maps.Datapath name (One s) takes pairs right

  drop_flag : (name : List ℕ) → Takes maps.Datapath name (One Flag) → FlagSays name (default_flag (default_of maps.Datapath name)) pairs (flag_at maps.Datapath name pairs)
  drop_flag name takes = flag_says maps.Datapath name pairs (dp_takes name Flag takes)

  drops_say : DropFlagsSay pairs (drop_flags pairs)
  unfolding default_of
  drops_say = record {
    spoofed = drop_flag (codes "drop_spoofed_faucet_mac") refl;
    broadcast = drop_flag (codes "drop_broadcast_source_address") refl;
    bpdu = drop_flag (codes "drop_bpdu") refl;
    lldp = drop_flag (codes "drop_lldp") refl;
  }

  dp_names_say : (key : Key) → NamesSay key pairs (names_by maps.Datapath (key_text key) pairs)
  unfolding default_of
  dp_names_say key = names_say maps.Datapath key pairs (λ own. refl) (λ own. refl) (dp_takes (codes "name") Name refl) (dp_takes (codes "description") Name refl)

  dp_hardware : says.Given (codes "hardware") pairs (text_at maps.Datapath (codes "hardware") [] pairs ≡ codes "Open vSwitch") (λ t. IsText t (text_at maps.Datapath (codes "hardware") [] pairs))
  unfolding default_of
  dp_hardware = text_says maps.Datapath (codes "hardware") pairs Words [] (default_text [] (default_of maps.Datapath (codes "hardware"))) (record { no_flag = refl; no_number = λ n. refl }) refl (dp_takes (codes "hardware") Words refl)

  dp_number_says : (name : List ℕ) → HasDefault maps.Datapath name → NumberSays name (default_number (default_of maps.Datapath name)) pairs (number_at maps.Datapath name pairs)
  dp_number_says name is = number_says maps.Datapath name pairs is (dp_takes name (ranged maps.Datapath name) is.range.takes)

dp_says : (key : Key) (pairs : List Pair) → IsRight maps.Datapath pairs → DpSays key pairs (datapath_with key pairs)
unfolding default_of
dp_says key pairs right = record {
  names = dp_names_say pairs right key;
  id = number_needed maps.Datapath (codes "dp_id") pairs 64 dp_id_range refl right;
  hardware = dp_hardware pairs right;
  timeout = dp_number_says pairs right (codes "timeout") timeout_default;
  arp_timeout = dp_number_says pairs right (codes "arp_neighbor_timeout") arp_timeout_default;
  lldp = stands (λ t lldp. IsSomeAnd lldp (IsMap LldpSays t)) (Map maps.LldpBeacon) (option_map lldp_interval) None refl
      (map_stands LldpSays maps.LldpBeacon (number_at maps.LldpBeacon (codes "send_interval")) lldp_says) (value_at (codes "lldp_beacon") pairs) (value_right maps.Datapath (codes "lldp_beacon") (Map maps.LldpBeacon) refl pairs right);
  stack_priority = stands (IsMap PrioritySays) (Map maps.DatapathStack) (λ o. number_under 32 (codes "priority") (option_map_or entries_of o [])) None refl
      (map_stands PrioritySays maps.DatapathStack (number_under 32 (codes "priority")) priority_says) (value_at (codes "stack") pairs) (value_right maps.Datapath (codes "stack") (Map maps.DatapathStack) refl pairs right);
  drops = drops_say pairs right;
  ports = needed maps.Datapath (codes "interfaces") (Map maps.Interfaces) refl refl (IsMap (AreMaps PortSays)) (λ o. map port_of_entry (option_map_or entries_of o [])) (map_stands (AreMaps PortSays) maps.Interfaces (map port_of_entry) ports_say) pairs right;
}

dps_say : (pairs : List Pair) → IsRight maps.Datapaths pairs → AreMaps DpSays pairs (map datapath_of_entry pairs)
dps_say pairs right =
    each_map (λ p dp. IsMap (DpSays p.key) p.value dp) datapath_of_entry pairs
    (each_right maps.Datapaths (λ p. IsMap (DpSays p.key) p.value (datapath_of_entry p)) (λ earlier p h.
    let k = named_right (key_text p.key) (Map maps.Datapath) OutOfRange h.0 (once_right maps.Datapaths earlier p.key h.0 h.1).1 in
    map_stands (DpSays p.key) maps.Datapath (datapath_with p.key) (dp_says p.key) p.value (subst (λ kind. faults_of p.value kind ≡ []) (sym k.0) h.2)) [] pairs right)

-- ---- VLANs

abbrev route_with : List Pair → Route
route_with pairs = record { dst = net_of (words_at (codes "ip_dst") pairs); gw = ip_of (words_at (codes "ip_gw") pairs) }

route_says : (pairs : List Pair) → IsRight maps.Route pairs → RouteSays pairs (route_with pairs)
route_says pairs right = record {
  dst = needed maps.Route (codes "ip_dst") (One Destination) refl refl IsNetwork (λ o. net_of (option_map_or words_of o [])) destination_stands pairs right;
  gw = needed maps.Route (codes "ip_gw") (One Gateway) refl refl IsAddress (λ o. ip_of (option_map_or words_of o [])) gateway_stands pairs right;
}

route_item_says : (pairs : List Pair) → IsRight maps.RouteItem pairs → RouteItemSays pairs (route_with (entries_at (codes "route") pairs))
route_item_says pairs right =
    needed maps.RouteItem (codes "route") (Map maps.Route) refl refl (IsMap RouteSays) (λ o. route_with (option_map_or entries_of o [])) (map_stands RouteSays maps.Route route_with route_says) pairs right

own_bytes : (mac_of (default_text [] (default_of (maps.Vlan None) (codes "faucet_mac")))).0 ≡ 0x0e ∷ 0 ∷ 0 ∷ 0 ∷ 0 ∷ 1 ∷ []
unfolding default_of spelled_mac pair_at next_at
own_bytes = refl

mac_given : (other : List ℕ) → (mac_of other).0 ≡ 0x0e ∷ 0 ∷ 0 ∷ 0 ∷ 0 ∷ 1 ∷ [] → (o : Option Tree) → IfSome o (λ t. faults_of t (One StationMac) ≡ [])
    → MatchOption o ((mac_of (unwrap_or (option_and_then text_of o) other)).0 ≡ 0x0e ∷ 0 ∷ 0 ∷ 0 ∷ 0 ∷ 1 ∷ []) (λ t. IsMac t (mac_of (unwrap_or (option_and_then text_of o) other)))
mac_given other is None h = is
mac_given other is (Some t) h = mac_stands other t h

module _ (number : Option ℕ) (pairs : List Pair) (right : IsRight (maps.Vlan number) pairs) where
  vlan_takes_one : (name : List ℕ) (s : Scalar) → Takes (maps.Vlan None) name (One s) → ((n : ℕ) → Takes (maps.Vlan (Some n)) name (One s)) → IfSome (value_at name pairs) (λ t. faults_of t (One s) ≡ [])
  vlan_takes_one name s none some = vlan_takes number name (One s) none some pairs right

  vlan_names_say : (key : Key) → NamesSay key pairs (names_by (maps.Vlan None) (key_text key) pairs)
  unfolding default_of
  vlan_names_say key = names_say (maps.Vlan None) key pairs (λ own. refl) (λ own. refl) (vlan_takes_one (codes "name") Name refl (λ n. refl)) (vlan_takes_one (codes "description") Name refl (λ n. refl))

  vlan_hosts_say : NumberSays (codes "max_hosts") 255 pairs (number_at (maps.Vlan None) (codes "max_hosts") pairs)
  unfolding default_of
  vlan_hosts_say = number_says (maps.Vlan None) (codes "max_hosts") pairs vlan_hosts_default (vlan_takes_one (codes "max_hosts") (ranged (maps.Vlan None) (codes "max_hosts")) refl (λ n. refl))

  vlan_flood_says : FlagSays (codes "unicast_flood") true pairs (flag_at (maps.Vlan None) (codes "unicast_flood") pairs)
  unfolding default_of
  vlan_flood_says = flag_says (maps.Vlan None) (codes "unicast_flood") pairs (vlan_takes_one (codes "unicast_flood") Flag refl (λ n. refl))

  vlan_mac_says : says.Given (codes "faucet_mac") pairs ((mac_at pairs).0 ≡ 0x0e ∷ 0 ∷ 0 ∷ 0 ∷ 0 ∷ 1 ∷ []) (λ t. IsMac t (mac_at pairs))
  vlan_mac_says =
      mac_given (default_text [] (default_of (maps.Vlan None) (codes "faucet_mac"))) own_bytes (value_at (codes "faucet_mac") pairs) (vlan_takes_one (codes "faucet_mac") StationMac refl (λ n. refl))

vlan_number_right : (number : Option ℕ) (pairs : List Pair) → IsRight (maps.Vlan number) pairs → IsRightBy 1 MOST_VID number (value_at (codes "vid") pairs)
vlan_number_right None pairs right = (needed_there (maps.Vlan None) (row (codes "vid") (Given 1 MOST_VID) UnlessNumbered OwnKey) refl (λ keys. refl) pairs right, value_right (maps.Vlan None) (codes "vid") (Given 1 MOST_VID) refl pairs right)
vlan_number_right (Some n) pairs right = value_right (maps.Vlan (Some n)) (codes "vid") (One (Number n n)) refl pairs right

vlan_says : (key : Key) (number : Option ℕ) → number_or_name 1 MOST_VID key ≡ Ok number → (pairs : List Pair) → IsRight (maps.Vlan number) pairs → VlanSays key pairs (vlan_with key pairs)
vlan_says key number found pairs right = record {
  names = vlan_names_say number pairs right key;
  has_vid = refl;
  vid = numbered_stands 1 MOST_VID key number found (value_at (codes "vid") pairs) (vlan_number_right number pairs right);
  acls = acls_say pairs (vlan_takes_one number pairs right (codes "acl_in") Label refl (λ n. refl)) (vlan_takes number (codes "acls_in") (Several Label) refl (λ n. refl) pairs right);
  mac = vlan_mac_says number pairs right;
  vips = stands (IsList IsNetwork) (Several Vip) (λ o. map vip_of (option_map_or items_of o [])) [] refl (list_stands IsNetwork vip_of (One Vip) vip_stands (Several Vip) refl refl refl)
      (value_at (codes "faucet_vips") pairs) (vlan_takes number (codes "faucet_vips") (Several Vip) refl (λ n. refl) pairs right);
  routes = stands (IsList (IsMap RouteItemSays)) (Maps maps.RouteItem) (λ o. map route_of (option_map_or items_of o [])) [] refl
      (list_stands (IsMap RouteItemSays) route_of (Map maps.RouteItem) (map_stands RouteItemSays maps.RouteItem (λ pairs. route_with (entries_at (codes "route") pairs)) route_item_says) (Maps maps.RouteItem) refl refl refl)
      (value_at (codes "routes") pairs) (vlan_takes number (codes "routes") (Maps maps.RouteItem) refl (λ n. refl) pairs right);
  max_hosts = vlan_hosts_say number pairs right;
  unicast_flood = vlan_flood_says number pairs right;
}

vlans_say : (pairs : List Pair) → IsRight maps.Vlans pairs → AreMaps VlanSays pairs (map vlan_of_entry pairs)
vlans_say pairs right =
    each_map (λ p vlan. IsMap (VlanSays p.key) p.value vlan) vlan_of_entry pairs
    (each_right maps.Vlans (λ p. IsMap (VlanSays p.key) p.value (vlan_of_entry p)) (λ earlier p h.
    let k = numbered_found 1 MOST_VID maps.Vlan p.key h.0 h.1 in
    map_stands (VlanSays p.key) (maps.Vlan k.0) (vlan_with p.key) (vlan_says p.key k.0 k.1) p.value (subst (λ kind. faults_of p.value kind ≡ []) k.2 h.2)) [] pairs right)

-- ---- ACLs and routers

abbrev output_with : List Pair → RawOutput
output_with pairs = record { port = option_at port_of (codes "port") pairs; ports = list_at port_of (codes "ports") pairs }

output_says : (pairs : List Pair) → IsRight maps.Output pairs → OutputSays pairs (output_with pairs)
output_says pairs right = record {
  port = stands (λ t port. IsSomeAnd port (IsPortOf (out-Tree t))) (One PORT_NAMED) (option_map port_of) None refl port_stands (value_at (codes "port") pairs) (value_right maps.Output (codes "port") (One PORT_NAMED) refl pairs right);
  ports = stands (IsList (λ item. IsPortOf (out-Tree item))) (Several PORT_NAMED) (λ o. map port_of (option_map_or items_of o [])) [] refl
      (list_stands (λ item. IsPortOf (out-Tree item)) port_of (One PORT_NAMED) port_stands (Several PORT_NAMED) refl refl refl)
      (value_at (codes "ports") pairs) (value_right maps.Output (codes "ports") (Several PORT_NAMED) refl pairs right);
}

allow_given : (other : Bool) → other ≡ false → (o : Option Tree) → IfSome o (λ t. faults_of t (One Permission) ≡ []) → MatchOption o (unwrap_or (option_and_then permission_of o) other ≡ false) (λ t. IsPermission (out-Tree t) (unwrap_or (option_and_then permission_of o) other))
allow_given other is o h = subst (λ other. MatchOption o (unwrap_or (option_and_then permission_of o) other ≡ false) (λ t. IsPermission (out-Tree t) (unwrap_or (option_and_then permission_of o) other))) (sym is)
    (stands (λ t allow. IsPermission (out-Tree t) allow) (One Permission) (λ o. unwrap_or (option_and_then permission_of o) false) false refl permission_stands o h)

denied : default_flag (default_of maps.Actions (codes "allow")) ≡ false
unfolding default_of
denied = refl

actions_say : (pairs actions : List Pair) → IsRight maps.Actions actions → ActionsSay actions (rule_with pairs actions)
actions_say pairs actions right = record {
  allow = allow_given (default_flag (default_of maps.Actions (codes "allow"))) denied (value_at (codes "allow") actions) (value_right maps.Actions (codes "allow") (One Permission) refl actions right);
  mirror = stands (λ t port. IsSomeAnd port (IsPortOf (out-Tree t))) (One PORT_NAMED) (option_map port_of) None refl port_stands (value_at (codes "mirror") actions) (value_right maps.Actions (codes "mirror") (One PORT_NAMED) refl actions right);
  output = stands (IsOneOrList (IsMap OutputSays)) (MapOrMaps maps.Output) (λ o. option_map_or (one_or_list_of output_of) o (several.List [])) (several.List []) refl (maps_stand OutputSays maps.Output output_with refl output_says)
      (value_at (codes "output") actions) (value_right maps.Actions (codes "output") (MapOrMaps maps.Output) refl actions right);
}

abbrev rule_in : List Pair → RawRule
rule_in pairs = rule_with pairs (entries_at (codes "actions") pairs)

rule_says : (pairs : List Pair) → IsRight maps.Rule pairs → RuleSays pairs (rule_in pairs)
rule_says pairs right = record {
  fields = fields_say pairs right;
  actions = needed maps.Rule (codes "actions") (Map maps.Actions) refl refl (IsMap ActionsSay) (λ o. rule_with pairs (option_map_or entries_of o [])) (map_stands ActionsSay maps.Actions (rule_with pairs) (actions_say pairs)) pairs right;
}

rule_item_says : (pairs : List Pair) → IsRight maps.RuleItem pairs → RuleItemSays pairs (rule_in (entries_at (codes "rule") pairs))
rule_item_says pairs right = needed maps.RuleItem (codes "rule") (Map maps.Rule) refl refl (IsMap RuleSays) (λ o. rule_in (option_map_or entries_of o [])) (map_stands RuleSays maps.Rule rule_in rule_says) pairs right

acl_says : (p : Pair) (kind : Kind) → named_kind (key_text p.key) maps.Acls ≡ Ok kind → faults_of p.value kind ≡ [] → AclSays p (acl_of_entry p)
acl_says p kind e h =
    let is : kind ≡ Maps maps.RuleItem = cc in
    record {
      name = refl;
      rules = list_stands (IsMap RuleItemSays) rule_of (Map maps.RuleItem) (map_stands RuleItemSays maps.RuleItem (λ pairs. rule_in (entries_at (codes "rule") pairs)) rule_item_says) (Maps maps.RuleItem) refl refl refl p.value (subst (λ kind. faults_of p.value kind ≡ []) is h);
    }

acls_each : (pairs : List Pair) → IsRight maps.Acls pairs → Each AclSays pairs (map acl_of_entry pairs)
acls_each pairs right = each_map AclSays acl_of_entry pairs (each_right maps.Acls (λ p. AclSays p (acl_of_entry p)) (λ earlier p h. acl_says p h.0 (once_right maps.Acls earlier p.key h.0 h.1).1 h.2) [] pairs right)

bgp_says : (pairs : List Pair) → IsRight maps.Bgp pairs → BgpSays pairs (bgp_with pairs)
bgp_says pairs right = record {
  our_as = number_needed maps.Bgp (codes "as") pairs 16 our_as_range refl right;
  neighbor_as = number_needed maps.Bgp (codes "neighbor_as") pairs 16 neighbor_as_range refl right;
  routerid = needed maps.Bgp (codes "routerid") (One Identifier) refl refl IsIdentifier (λ o. identifier_of (option_map_or words_of o [])) identifier_stands pairs right;
  vlan = needed maps.Bgp (codes "vlan") (One VLAN_NAMED) refl refl (λ t. IsVlanOf (out-Tree t)) (λ o. unwrap_or (option_map vlan_of o) (vlan_refs.Name [])) vlan_stands pairs right;
}

router_says : (key : Key) (pairs : List Pair) → IsRight maps.Router pairs → RouterSays key pairs (router_with key pairs)
router_says key pairs right = record {
  name = refl;
  vlans = stands (IsList (λ item. IsVlanOf (out-Tree item))) (Several VLAN_NAMED) (λ o. map vlan_of (option_map_or items_of o [])) [] refl vlans_stand
      (value_at (codes "vlans") pairs) (value_right maps.Router (codes "vlans") (Several VLAN_NAMED) refl pairs right);
  bgp = stands (λ t bgp. IsSomeAnd bgp (IsMap BgpSays t)) (Map maps.Bgp) (option_map bgp_of) None refl (map_stands BgpSays maps.Bgp bgp_with bgp_says) (value_at (codes "bgp") pairs) (value_right maps.Router (codes "bgp") (Map maps.Bgp) refl pairs right);
}

router_entry : (p : Pair) (kind : Kind) → named_kind (key_text p.key) maps.Routers ≡ Ok kind → faults_of p.value kind ≡ [] → IsMap (RouterSays p.key) p.value (router_of_entry p)
router_entry p kind e h = let is : kind ≡ Map maps.Router = cc in map_stands (RouterSays p.key) maps.Router (router_with p.key) (router_says p.key) p.value (subst (λ kind. faults_of p.value kind ≡ []) is h)

routers_say : (pairs : List Pair) → IsRight maps.Routers pairs → AreMaps RouterSays pairs (map router_of_entry pairs)
routers_say pairs right =
    each_map (λ p router. IsMap (RouterSays p.key) p.value router) router_of_entry pairs
    (each_right maps.Routers (λ p. IsMap (RouterSays p.key) p.value (router_of_entry p)) (λ earlier p h. router_entry p h.0 (once_right maps.Routers earlier p.key h.0 h.1).1 h.2) [] pairs right)

-- ---- the whole

abbrev raw_with : List Pair → RawConf
raw_with pairs = record {
  dps = map datapath_of_entry (entries_at (codes "dps") pairs);
  vlans = map vlan_of_entry (entries_at (codes "vlans") pairs);
  acls = map acl_of_entry (entries_at (codes "acls") pairs);
  routers = map router_of_entry (entries_at (codes "routers") pairs);
}

top_says : (pairs : List Pair) → IsRight maps.Top pairs → TopSays pairs (raw_with pairs)
top_says pairs right = record {
  dps = needed maps.Top (codes "dps") (Map maps.Datapaths) refl refl (IsMap (AreMaps DpSays)) (λ o. map datapath_of_entry (option_map_or entries_of o [])) (map_stands (AreMaps DpSays) maps.Datapaths (map datapath_of_entry) dps_say) pairs right;
  vlans = stands (IsMap (AreMaps VlanSays)) (Map maps.Vlans) (λ o. map vlan_of_entry (option_map_or entries_of o [])) [] refl (map_stands (AreMaps VlanSays) maps.Vlans (map vlan_of_entry) vlans_say) (value_at (codes "vlans") pairs) (value_right maps.Top (codes "vlans") (Map maps.Vlans) refl pairs right);
  acls = stands (IsMap (Each AclSays)) (Map maps.Acls) (λ o. map acl_of_entry (option_map_or entries_of o [])) [] refl (map_stands (Each AclSays) maps.Acls (map acl_of_entry) acls_each) (value_at (codes "acls") pairs) (value_right maps.Top (codes "acls") (Map maps.Acls) refl pairs right);
  routers = stands (IsMap (AreMaps RouterSays)) (Map maps.Routers) (λ o. map router_of_entry (option_map_or entries_of o [])) [] refl (map_stands (AreMaps RouterSays) maps.Routers (map router_of_entry) routers_say) (value_at (codes "routers") pairs) (value_right maps.Top (codes "routers") (Map maps.Routers) refl pairs right);
}

pub document_says : (t : Tree) → first_fault t ≡ None → Says t (raw_of t)
document_says t none = map_stands TopSays maps.Top raw_with top_says t (document_fine t none)
