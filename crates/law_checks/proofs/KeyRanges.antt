-- The parts of a raw configuration are in range, the least first.
use Rattle.std.proofs.Common.{◌≡◌, ℕ, ◌-◌, ◌^◌, ◌<◌, ◌≤◌, Bool, true, false, List, [], ◌∷◌, ◌++◌, Option, Some, None, Ok, Err, refl, sym, ap, ◌∙◌, subst, arith}
use Rattle.std.specs.Prelude.{map, codes, IfSome, is_some, unwrap_or, option_and_then, if◌then◌else◌}
use Rattle.std.specs.List.{AllByRecursion, list_any}
use Rattle.std.specs.Option.{option_map, option_map_or}
use Rattle.std.proofs.lemmas.Bool.{or_left, or_right, true≢false}
use Rattle.std.proofs.lemmas.List.Folds.{list_any-append}
use Rattle.std.proofs.lemmas.Nat.{pow_pos}
use Rattle.std.proofs.lemmas.Slice.Eq.{bytes_eq-Decides}
use Rattle.net_base.specs.AddressReading.{spelled_mac, pair_at, next_at}
use Rattle.yaml_tree.specs.declared.tree.Tree.{Tree, out-Tree}
use Rattle.yaml_tree.specs.declared.tree.Tree.TheOpen.{Tree-F}
use Rattle.yaml_tree.specs.declared.tree.Tree.TheOpen as tree
use Rattle.yaml_tree.specs.declared.tree.Key.{Key}
use Rattle.yaml_tree.specs.declared.tree.Key.TheVariants as key
use Rattle.yaml_tree.specs.declared.tree.Pair.{Pair}
use Rattle.conf_types.specs.Lists.{EachBefore, IsLabel}
use Rattle.conf_types.specs.Valid.{IsTimeout, IsInterval, IsStation, IsVip, IsRoute, NamesPort, IsAs}
use Rattle.conf_shape.specs.declared.refused.ConfCause.TheVariants.{OutOfRange, Duplicate}
use Rattle.conf_shape.specs.declared.kinds.Need.TheVariants.{Always}
use Rattle.conf_shape.specs.declared.raw.OneOrList.TheVariants as one_or_list
use Rattle.conf_shape.specs.declared.raw.VlanRef.TheVariants as vlan_refs
use Rattle.conf_shape.specs.declared.kinds.Kind.{Kind}
use Rattle.conf_shape.specs.declared.kinds.Kind.TheVariants.{One, Several, Map, Maps}
use Rattle.conf_shape.specs.declared.kinds.Scalar.TheVariants.{Number, Name, StationMac, Vip, Destination, Identifier}
use Rattle.conf_shape.specs.declared.kinds.TheConstants.{MOST_VID, MOST_PORT_NO}
use Rattle.conf_shape.specs.declared.kinds.MapKind.{MapKind}
use Rattle.conf_shape.specs.declared.kinds.MapKind.TheVariants as maps
use Rattle.conf_shape.specs.Addresses.{station_cause}
use Rattle.conf_shape.specs.Faults.{faults_of, entry_of, map_faults, first_fault}
use Rattle.conf_shape.specs.Keys.{Nothing, OwnKey, OwnName, row, keys_of}
use Rattle.conf_shape.specs.Raw.{names_by, port_of_entry, lldp_interval, lldp, datapath_of_entry, vip_of, route_of, mac_at, vlan_of_entry, output_of, rule_with, rule_of, acl_of_entry, bgp_with, bgp_of, router_with, router_of_entry, raw_of}
use Rattle.conf_shape.specs.Reads.{value_at, number_of, words_of, text_of, items_of, entries_of, entries_at, words_at, text_in, number_in, text_at, default_of, default_number, default_text, number_under, port_or, port_of, vlan_or, vlan_of, label_of, own_number, number_at, one_or_list_in, one_or_list_of}
use Rattle.conf_shape.specs.Sections.{key_text, row_at, has_text, named_once, named_kind, under_key}
use Rattle.conf_shape.specs.Values.{ip_of, net_of, identifier_of}
use Rattle.conf_shape.specs.Written.{IsRight, Takes}
use Rattle.conf_resolve.specs.InRange.{NamesVlan, AreNames, PortIsInRange, DpIsInRange, VlanIsInRange, OutputIsInRange, RuleIsInRange, BgpIsInRange, RouterIsInRange, IsInRange}
use Rattle.conf_resolve.specs.Resolved.{items_of as outputs_of}
use Rattle.law_checks.proofs.Right.{document_right, map_right, entry_right, each_right, value_right, takes_by, below_right, items_right, all_through, all_read, listed_right}
use Rattle.law_checks.proofs.Bounds.{least_of, most_of, ranged, HasDefault, timeout_default, arp_timeout_default, port_hosts_default, vlan_hosts_default, send_interval_default}
use Rattle.law_checks.proofs.Values.{number_or, own_range, number_bounds, within_bounds, within_again, number_right, text_right, text_or, name_or, named_right, numbered_right}
use Rattle.law_checks.proofs.Addresses.{IsDestination, station_right, vip_right, network_right, no_network, gateway_below, identifier_below, identifier_right}
use Rattle.law_checks.proofs.Fields.{fields_may, fields_apart}
use Rattle.law_checks.proofs.Stands.{needed_there}

-- ---- names and numbers

module _ (m : MapKind) (label : List ℕ) (pairs : List Pair) where
  names_right : default_of m (codes "name") ≡ OwnKey → default_of m (codes "description") ≡ OwnName → IsLabel label
      → IfSome (value_at (codes "name") pairs) (λ t. faults_of t (One Name) ≡ []) → IfSome (value_at (codes "description") pairs) (λ t. faults_of t (One Name) ≡ [])
      → AreNames (names_by m label pairs)
  names_right own_key own_name is name description =
      let named : IsLabel (unwrap_or (option_and_then text_of (value_at (codes "name") pairs)) (default_text label (default_of m (codes "name")))) =
      name_or (default_text label (default_of m (codes "name"))) (subst (λ d. IsLabel (default_text label d)) (sym own_key) is) (value_at (codes "name") pairs) name in
      record {
        name = named;
        description = name_or (default_text (names_by m label pairs).name (default_of m (codes "description"))) (subst (λ d. IsLabel (default_text (names_by m label pairs).name d)) (sym own_name) named) (value_at (codes "description") pairs) description;
      }

-- a number with a default
number_in_range : (m : MapKind) (name : List ℕ) (pairs : List Pair) → HasDefault m name
    → IfSome (value_at name pairs) (λ t. faults_of t (One (ranged m name)) ≡ []) → (least_of m name ≤ number_at m name pairs) × (number_at m name pairs ≤ most_of m name)
number_in_range m name pairs range h = number_or (least_of m name) (most_of m name) (default_number (default_of m name)) range.range.small range.least range.most (value_at name pairs) h

-- whatever stands under a key, what is read as a number of so many bits is one
number_small : (bits : ℕ) (o : Option Tree) → IfSome (option_and_then (number_of 0 (2 ^ bits - 1)) o) (λ n. n < 2 ^ bits)
number_small bits None = tt
number_small bits (Some t) = by (number_of 0 (2 ^ bits - 1) t) (number_bounds 0 (2 ^ bits - 1) t)
  where
    by : (o : Option ℕ) → IfSome o (λ n. (0 ≤ n) × (n ≤ 2 ^ bits - 1)) → IfSome o (λ n. n < 2 ^ bits)
    by None h = tt
    by (Some n) h = omega (arith, h.1, pow_pos bits)

small_or_zero : (bits : ℕ) (o : Option ℕ) → IfSome o (λ n. n < 2 ^ bits) → unwrap_or o 0 < 2 ^ bits
small_or_zero bits None h = pow_pos bits
small_or_zero bits (Some n) h = h

-- the number of an interface or a VLAN
own_bounds : (low high : ℕ) (k : Key) (o : Option Tree) → IfSome (own_number low high k o) (λ n. (low ≤ n) × (n ≤ high))
own_bounds low high (key.Int n) o = within_bounds low high n
own_bounds low high (key.Text text) None = tt
own_bounds low high (key.Text text) (Some t) = number_bounds low high t

names_vlan : (t : Tree) → NamesVlan (vlan_of t)
names_vlan t = by (number_of 1 MOST_VID t) (number_bounds 1 MOST_VID t)
  where
    by : (o : Option ℕ) → IfSome o (λ n. (1 ≤ n) × (n ≤ MOST_VID)) → NamesVlan (vlan_or (label_of t) o)
    by None h = tt
    by (Some n) h = record { least = h.0; most = h.1 }

names_port : (t : Tree) → NamesPort (port_of t)
names_port t = by (number_of 1 MOST_PORT_NO t) (number_bounds 1 MOST_PORT_NO t)
  where
    by : (o : Option ℕ) → IfSome o (λ n. (1 ≤ n) × (n ≤ MOST_PORT_NO)) → NamesPort (port_or (label_of t) o)
    by None h = tt
    by (Some n) h = record { least = h.0; most = h.1 }

-- what is read of a tree, where one stands
if_read : {A : Type 0} (P : A → Type 0) (read : Tree → A) → ((t : Tree) → P (read t)) → (o : Option Tree) → IfSome (option_map read o) P
if_read P read h None = tt
if_read P read h (Some t) = h t

-- ---- interfaces

module _ (number : Option ℕ) where
  pub port_takes : (name : List ℕ) (kind : Kind) → Takes (maps.Interface None) name kind → ((n : ℕ) → Takes (maps.Interface (Some n)) name kind) → (pairs : List Pair) → IsRight (maps.Interface number) pairs → IfSome (value_at name pairs) (λ t. faults_of t kind ≡ [])
  port_takes name kind none some pairs right = value_right (maps.Interface number) name kind (takes_by maps.Interface name kind none some number) pairs right

  port_names : (label : List ℕ) (pairs : List Pair) → IsLabel label → IsRight (maps.Interface number) pairs → AreNames (names_by (maps.Interface None) label pairs)
  unfolding default_of
  port_names label pairs is right =
      names_right (maps.Interface None) label pairs refl refl is (port_takes (codes "name") (One Name) refl (λ n. refl) pairs right) (port_takes (codes "description") (One Name) refl (λ n. refl) pairs right)

  port_hosts : (pairs : List Pair) → IsRight (maps.Interface number) pairs → (least_of (maps.Interface None) (codes "max_hosts") ≤ number_at (maps.Interface None) (codes "max_hosts") pairs) × (number_at (maps.Interface None) (codes "max_hosts") pairs ≤ most_of (maps.Interface None) (codes "max_hosts"))
  port_hosts pairs right =
      number_in_range (maps.Interface None) (codes "max_hosts") pairs port_hosts_default (port_takes (codes "max_hosts") (One (ranged (maps.Interface None) (codes "max_hosts"))) refl (λ n. refl) pairs right)

port_right : (p : Pair) (number : Option ℕ) → IsLabel (key_text p.key) → IsRight (maps.Interface number) (entries_of p.value) → PortIsInRange (port_of_entry p)
port_right p number label right =
    let pairs : List Pair = entries_of p.value in
    let no = own_range 1 MOST_PORT_NO 1 (omega arith) (omega arith) (own_number 1 MOST_PORT_NO p.key (value_at (codes "number") pairs)) (own_bounds 1 MOST_PORT_NO p.key (value_at (codes "number") pairs)) in
    let hosts = port_hosts number pairs right in
    record {
      number = record { least = no.0; most = no.1 };
      names = port_names number (key_text p.key) pairs label right;
      hosts = hosts.0;
      most_hosts = hosts.1;
      native = if_read NamesVlan vlan_of names_vlan (value_at (codes "native_vlan") pairs);
      tagged = all_read NamesVlan vlan_of names_vlan (option_map_or items_of (value_at (codes "tagged_vlans") pairs) []);
    }

ports_right : (pairs : List Pair) → IsRight maps.Interfaces pairs → AllByRecursion PortIsInRange (map port_of_entry pairs)
ports_right pairs right =
    all_through (λ p. PortIsInRange (port_of_entry p)) PortIsInRange port_of_entry (λ p h. h) pairs
    (each_right maps.Interfaces (λ p. PortIsInRange (port_of_entry p)) (λ earlier p h.
    let k = numbered_right 1 MOST_PORT_NO maps.Interface p.key h.0 (omega arith) h.1 in
    port_right p k.0 k.2 (map_right (maps.Interface k.0) p.value (subst (λ kind. faults_of p.value kind ≡ []) k.1 h.2))) [] pairs right)

-- ---- datapaths

dp_names : (label : List ℕ) (pairs : List Pair) → IsLabel label → IsRight maps.Datapath pairs → AreNames (names_by maps.Datapath label pairs)
unfolding default_of
dp_names label pairs is right = names_right maps.Datapath label pairs refl refl is (value_right maps.Datapath (codes "name") (One Name) refl pairs right) (value_right maps.Datapath (codes "description") (One Name) refl pairs right)

dp_timeout : (pairs : List Pair) → IsRight maps.Datapath pairs → IsTimeout (number_at maps.Datapath (codes "timeout") pairs)
dp_timeout pairs right =
    let r = number_in_range maps.Datapath (codes "timeout") pairs timeout_default (value_right maps.Datapath (codes "timeout") (One (ranged maps.Datapath (codes "timeout"))) refl pairs right) in
    record { least = r.0; most = r.1 }

dp_arp_timeout : (pairs : List Pair) → IsRight maps.Datapath pairs → IsTimeout (number_at maps.Datapath (codes "arp_neighbor_timeout") pairs)
dp_arp_timeout pairs right =
    let r = number_in_range maps.Datapath (codes "arp_neighbor_timeout") pairs arp_timeout_default (value_right maps.Datapath (codes "arp_neighbor_timeout") (One (ranged maps.Datapath (codes "arp_neighbor_timeout"))) refl pairs right) in
    record { least = r.0; most = r.1 }

dp_lldp : (pairs : List Pair) → IsRight maps.Datapath pairs → IfSome (lldp pairs) IsInterval
dp_lldp pairs right = by (value_at (codes "lldp_beacon") pairs) (value_right maps.Datapath (codes "lldp_beacon") (Map maps.LldpBeacon) refl pairs right)
  where
    by : (o : Option Tree) → IfSome o (λ t. faults_of t (Map maps.LldpBeacon) ≡ []) → IfSome (option_map lldp_interval o) IsInterval
    by None h = tt
    by (Some t) h =
        let inner = map_right maps.LldpBeacon t h in
        let r = number_in_range maps.LldpBeacon (codes "send_interval") (entries_of t) send_interval_default (value_right maps.LldpBeacon (codes "send_interval") (One (ranged maps.LldpBeacon (codes "send_interval"))) refl (entries_of t) inner) in
        record { least = r.0; most = r.1 }

dp_right : (p : Pair) → IsLabel (key_text p.key) → IsRight maps.Datapath (entries_of p.value) → DpIsInRange (datapath_of_entry p)
dp_right p label right =
    let pairs : List Pair = entries_of p.value in
    record {
      id = small_or_zero 64 (number_under 64 (codes "dp_id") pairs) (number_small 64 (value_at (codes "dp_id") pairs));
      names = dp_names (key_text p.key) pairs label right;
      timeout = dp_timeout pairs right;
      arp_timeout = dp_arp_timeout pairs right;
      lldp = dp_lldp pairs right;
      stack_priority = number_small 32 (value_at (codes "priority") (entries_at (codes "stack") pairs));
      ports = below_right maps.Interfaces (λ pairs. AllByRecursion PortIsInRange (map port_of_entry pairs)) ports_right tt (value_at (codes "interfaces") pairs) (value_right maps.Datapath (codes "interfaces") (Map maps.Interfaces) refl pairs right);
    }

-- a key that is a name has what stands under the name, and isn't written twice
pub once_right : (m : MapKind) (earlier : List Key) (k : Key) (kind : Kind) → named_once m earlier k ≡ Ok kind → (list_any (has_text (key_text k)) earlier ≡ false) × (named_kind (key_text k) m ≡ Ok kind)
once_right m earlier k kind e = by (list_any (has_text (key_text k)) earlier) e
  where
    by : (twice : Bool) → (if twice then Err Duplicate else named_kind (key_text k) m) ≡ Ok kind → (twice ≡ false) × (named_kind (key_text k) m ≡ Ok kind)
    by true e = absurd cc
    by false e = (refl, e)

dps_right : (pairs : List Pair) → IsRight maps.Datapaths pairs → AllByRecursion DpIsInRange (map datapath_of_entry pairs)
dps_right pairs right =
    all_through (λ p. DpIsInRange (datapath_of_entry p)) DpIsInRange datapath_of_entry (λ p h. h) pairs
    (each_right maps.Datapaths (λ p. DpIsInRange (datapath_of_entry p)) (λ earlier p h.
    let k = named_right (key_text p.key) (Map maps.Datapath) OutOfRange h.0 (once_right maps.Datapaths earlier p.key h.0 h.1).1 in
    dp_right p k.1 (map_right maps.Datapath p.value (subst (λ kind. faults_of p.value kind ≡ []) (sym k.0) h.2))) [] pairs right)

-- ---- VLANs

vip_in_range : (t : Tree) → faults_of t (One Vip) ≡ [] → IsVip (vip_of t)
vip_in_range t h = let r = text_right Vip (record { no_flag = refl; no_number = λ n. refl }) t h in subst (λ x. IsVip (net_of (unwrap_or (text_in x) []))) (sym r.1) (vip_right r.0 r.2)

destination_right : (pairs : List Pair) → IsRight maps.Route pairs → IsDestination (words_at (codes "ip_dst") pairs)
destination_right pairs right = by (value_at (codes "ip_dst") pairs) (value_right maps.Route (codes "ip_dst") (One Destination) refl pairs right)
  where
    by : (o : Option Tree) → IfSome o (λ t. faults_of t (One Destination) ≡ []) → IsDestination (option_map_or words_of o [])
    by None h = no_network
    by (Some t) h = let r = text_right Destination (record { no_flag = refl; no_number = λ n. refl }) t h in subst (λ x. IsDestination (unwrap_or (text_in x) [])) (sym r.1) (network_right r.0 r.2)

route_with : (pairs : List Pair) → IsDestination (words_at (codes "ip_dst") pairs) → IsRoute (record { dst = net_of (words_at (codes "ip_dst") pairs); gw = ip_of (words_at (codes "ip_gw") pairs) })
route_with pairs network = record { address = network.address; length = network.length; network = network.network; gateway = gateway_below (words_at (codes "ip_gw") pairs) }

route_in_range : (t : Tree) → faults_of t (Map maps.RouteItem) ≡ [] → IsRoute (route_of t)
route_in_range t h =
    let pairs : List Pair = entries_of t in
    let right = map_right maps.RouteItem t h in
    route_with (entries_at (codes "route") pairs)
    (below_right maps.Route (λ pairs. IsDestination (words_at (codes "ip_dst") pairs)) destination_right no_network (value_at (codes "route") pairs) (value_right maps.RouteItem (codes "route") (Map maps.Route) refl pairs right))

own_mac : station_cause (default_text [] (default_of (maps.Vlan None) (codes "faucet_mac"))) ≡ None
unfolding default_of spelled_mac pair_at next_at
own_mac = refl

module _ (number : Option ℕ) where
  pub vlan_takes : (name : List ℕ) (kind : Kind) → Takes (maps.Vlan None) name kind → ((n : ℕ) → Takes (maps.Vlan (Some n)) name kind) → (pairs : List Pair) → IsRight (maps.Vlan number) pairs → IfSome (value_at name pairs) (λ t. faults_of t kind ≡ [])
  vlan_takes name kind none some pairs right = value_right (maps.Vlan number) name kind (takes_by maps.Vlan name kind none some number) pairs right

  vlan_names : (label : List ℕ) (pairs : List Pair) → IsLabel label → IsRight (maps.Vlan number) pairs → AreNames (names_by (maps.Vlan None) label pairs)
  unfolding default_of
  vlan_names label pairs is right =
      names_right (maps.Vlan None) label pairs refl refl is (vlan_takes (codes "name") (One Name) refl (λ n. refl) pairs right) (vlan_takes (codes "description") (One Name) refl (λ n. refl) pairs right)

  vlan_hosts : (pairs : List Pair) → IsRight (maps.Vlan number) pairs → (least_of (maps.Vlan None) (codes "max_hosts") ≤ number_at (maps.Vlan None) (codes "max_hosts") pairs) × (number_at (maps.Vlan None) (codes "max_hosts") pairs ≤ most_of (maps.Vlan None) (codes "max_hosts"))
  vlan_hosts pairs right =
      number_in_range (maps.Vlan None) (codes "max_hosts") pairs vlan_hosts_default (vlan_takes (codes "max_hosts") (One (ranged (maps.Vlan None) (codes "max_hosts"))) refl (λ n. refl) pairs right)

  vlan_mac : (pairs : List Pair) → IsRight (maps.Vlan number) pairs → IsStation (mac_at pairs).0
  vlan_mac pairs right =
      station_right (text_at (maps.Vlan None) (codes "faucet_mac") [] pairs)
      (text_or StationMac (λ text. station_cause text ≡ None) (record { no_flag = refl; no_number = λ n. refl }) (λ text e. e) (default_text [] (default_of (maps.Vlan None) (codes "faucet_mac"))) own_mac
      (value_at (codes "faucet_mac") pairs) (vlan_takes (codes "faucet_mac") (One StationMac) refl (λ n. refl) pairs right))

vlan_right : (p : Pair) (number : Option ℕ) → IsLabel (key_text p.key) → IsRight (maps.Vlan number) (entries_of p.value) → VlanIsInRange (vlan_of_entry p)
vlan_right p number label right =
    let pairs : List Pair = entries_of p.value in
    let no = own_range 1 MOST_VID 1 (omega arith) (omega arith) (own_number 1 MOST_VID p.key (value_at (codes "vid") pairs)) (own_bounds 1 MOST_VID p.key (value_at (codes "vid") pairs)) in
    let hosts = vlan_hosts number pairs right in
    record {
      number = record { least = no.0; most = no.1 };
      names = vlan_names number (key_text p.key) pairs label right;
      mac = vlan_mac number pairs right;
      vips = listed_right IsVip vip_of (Several Vip) (One Vip) refl vip_in_range (value_at (codes "faucet_vips") pairs) (vlan_takes number (codes "faucet_vips") (Several Vip) refl (λ n. refl) pairs right);
      routes = listed_right IsRoute route_of (Maps maps.RouteItem) (Map maps.RouteItem) refl route_in_range (value_at (codes "routes") pairs) (vlan_takes number (codes "routes") (Maps maps.RouteItem) refl (λ n. refl) pairs right);
      hosts = hosts.0;
      most_hosts = hosts.1;
    }

vlans_right : (pairs : List Pair) → IsRight maps.Vlans pairs → AllByRecursion VlanIsInRange (map vlan_of_entry pairs)
vlans_right pairs right =
    all_through (λ p. VlanIsInRange (vlan_of_entry p)) VlanIsInRange vlan_of_entry (λ p h. h) pairs
    (each_right maps.Vlans (λ p. VlanIsInRange (vlan_of_entry p)) (λ earlier p h.
    let k = numbered_right 1 MOST_VID maps.Vlan p.key h.0 (omega arith) h.1 in
    vlan_right p k.0 k.2 (map_right (maps.Vlan k.0) p.value (subst (λ kind. faults_of p.value kind ≡ []) k.1 h.2))) [] pairs right)

-- ---- ACLs and routers

output_right : (t : Tree) → OutputIsInRange (output_of t)
output_right t =
    let pairs : List Pair = entries_of t in
    record {
      port = if_read NamesPort port_of names_port (value_at (codes "port") pairs);
      ports = all_read NamesPort port_of names_port (option_map_or items_of (value_at (codes "ports") pairs) []);
    }

-- one map, or a list of them
outputs_right : (o : Option Tree) → AllByRecursion OutputIsInRange (outputs_of (option_map_or (one_or_list_of output_of) o (one_or_list.List [])))
outputs_right None = tt
outputs_right (Some t) = by (out-Tree t)
  where
    one : AllByRecursion OutputIsInRange (output_of t ∷ [])
    one = (output_right t, tt)

    by : (x : Tree-F Tree Pair) → AllByRecursion OutputIsInRange (outputs_of (one_or_list_in output_of (output_of t) x))
    by (tree.List items) = all_read OutputIsInRange output_of output_right items
    by tree.Null = one
    by (tree.Bool flag) = one
    by (tree.Int n) = one
    by (tree.Text text) = one
    by (tree.Map pairs) = one

rule_right : (pairs actions : List Pair) → IsRight maps.Rule pairs → RuleIsInRange (rule_with pairs actions)
rule_right pairs actions right = record {
  each = fields_may pairs right;
  once = fields_apart pairs right;
  mirror = if_read NamesPort port_of names_port (value_at (codes "mirror") actions);
  output = outputs_right (value_at (codes "output") actions);
}

rule_in_range : (t : Tree) → faults_of t (Map maps.RuleItem) ≡ [] → RuleIsInRange (rule_of t)
rule_in_range t h =
    below_right maps.Rule (λ pairs. RuleIsInRange (rule_with pairs (entries_at (codes "actions") pairs))) (λ pairs right. rule_right pairs (entries_at (codes "actions") pairs) right) (record { each = tt; once = tt; mirror = tt; output = tt })
    (value_at (codes "rule") (entries_of t)) (value_right maps.RuleItem (codes "rule") (Map maps.Rule) refl (entries_of t) (map_right maps.RuleItem t h))

acl_right : (p : Pair) (kind : Kind) → named_kind (key_text p.key) maps.Acls ≡ Ok kind → faults_of p.value kind ≡ [] → AllByRecursion RuleIsInRange (map rule_of (items_of p.value))
acl_right p kind e h =
    let is : kind ≡ Maps maps.RuleItem = cc in
    all_through (λ t. faults_of t (Map maps.RuleItem) ≡ []) RuleIsInRange rule_of rule_in_range (items_of p.value) (items_right (Maps maps.RuleItem) (Map maps.RuleItem) p.value refl (subst (λ kind. faults_of p.value kind ≡ []) is h))

acls_right : (pairs : List Pair) → IsRight maps.Acls pairs → AllByRecursion (λ a. AllByRecursion RuleIsInRange a.rules) (map acl_of_entry pairs)
acls_right pairs right =
    all_through (λ p. AllByRecursion RuleIsInRange (map rule_of (items_of p.value))) (λ a. AllByRecursion RuleIsInRange a.rules) acl_of_entry (λ p h. h) pairs
    (each_right maps.Acls (λ p. AllByRecursion RuleIsInRange (map rule_of (items_of p.value))) (λ earlier p h. acl_right p h.0 (once_right maps.Acls earlier p.key h.0 h.1).1 h.2) [] pairs right)

-- a number that has to be there, in the range of its key
number_there : (low high other : ℕ) → high ≤ 2 ^ 16 - 1 → (o : Option Tree) → is_some o ≡ true → IfSome o (λ t. faults_of t (One (Number low high)) ≡ [])
    → (low ≤ unwrap_or (option_and_then (number_of 0 (2 ^ 16 - 1)) o) other) × (unwrap_or (option_and_then (number_of 0 (2 ^ 16 - 1)) o) other ≤ high)
number_there low high other small None there h = absurd cc
number_there low high other small (Some t) there h =
    let r = number_right low high t h in
    let fits : r.0 ≤ 2 ^ 16 - 1 = omega (arith, r.3, small) in
    let read : number_of 0 (2 ^ 16 - 1) t ≡ Some r.0 = ap (number_in 0 (2 ^ 16 - 1)) r.1 ∙ within_again 0 (2 ^ 16 - 1) r.0 (omega arith) fits in
    subst (λ x. (low ≤ unwrap_or x other) × (unwrap_or x other ≤ high)) (sym read) (r.2, r.3)

as_right : (name : List ℕ) → row_at name (keys_of maps.Bgp).rows ≡ Some (row name (One (Number 1 65535)) Always Nothing) → Takes maps.Bgp name (One (Number 1 65535))
    → (pairs : List Pair) → IsRight maps.Bgp pairs → IsAs (unwrap_or (number_under 16 name pairs) 0)
as_right name at takes pairs right =
    let r = number_there 1 65535 0 (omega arith) (value_at name pairs) (needed_there maps.Bgp (row name (One (Number 1 65535)) Always Nothing) at (λ keys. refl) pairs right) (value_right maps.Bgp name (One (Number 1 65535)) takes pairs right) in
    record { least = r.0; most = r.1 }

identified : (pairs : List Pair) → IsRight maps.Bgp pairs → 1 ≤ (identifier_of (words_at (codes "routerid") pairs)).0
identified pairs right =
    by (value_at (codes "routerid") pairs) (needed_there maps.Bgp (row (codes "routerid") (One Identifier) Always Nothing) refl (λ keys. refl) pairs right) (value_right maps.Bgp (codes "routerid") (One Identifier) refl pairs right)
  where
    by : (o : Option Tree) → is_some o ≡ true → IfSome o (λ t. faults_of t (One Identifier) ≡ []) → 1 ≤ (identifier_of (option_map_or words_of o [])).0
    by None there h = absurd cc
    by (Some t) there h = let r = text_right Identifier (record { no_flag = refl; no_number = λ n. refl }) t h in subst (λ x. 1 ≤ (identifier_of (unwrap_or (text_in x) [])).0) (sym r.1) (identifier_right r.0 r.2)

names_or_nothing : (o : Option Tree) → NamesVlan (unwrap_or (option_map vlan_of o) (vlan_refs.Name []))
names_or_nothing None = tt
names_or_nothing (Some t) = names_vlan t

bgp_right : (pairs : List Pair) → IsRight maps.Bgp pairs → BgpIsInRange (bgp_with pairs)
bgp_right pairs right = record {
  ours = as_right (codes "as") refl refl pairs right;
  theirs = as_right (codes "neighbor_as") refl refl pairs right;
  identified = identified pairs right;
  address = identifier_below (words_at (codes "routerid") pairs);
  vlan = names_or_nothing (value_at (codes "vlan") pairs);
}

peer_right : (o : Option Tree) → IfSome o (λ t. faults_of t (Map maps.Bgp) ≡ []) → IfSome (option_map bgp_of o) BgpIsInRange
peer_right None h = tt
peer_right (Some t) h = bgp_right (entries_of t) (map_right maps.Bgp t h)

router_right : (key : Key) (pairs : List Pair) → IsRight maps.Router pairs → RouterIsInRange (router_with key pairs)
router_right key pairs right = record {
  vlans = all_read NamesVlan vlan_of names_vlan (option_map_or items_of (value_at (codes "vlans") pairs) []);
  bgp = peer_right (value_at (codes "bgp") pairs) (value_right maps.Router (codes "bgp") (Map maps.Bgp) refl pairs right);
}

router_named : (p : Pair) (kind : Kind) → named_kind (key_text p.key) maps.Routers ≡ Ok kind → faults_of p.value kind ≡ [] → RouterIsInRange (router_of_entry p)
router_named p kind e h = let is : kind ≡ Map maps.Router = cc in router_right p.key (entries_of p.value) (map_right maps.Router p.value (subst (λ kind. faults_of p.value kind ≡ []) is h))

routers_right : (pairs : List Pair) → IsRight maps.Routers pairs → AllByRecursion RouterIsInRange (map router_of_entry pairs)
routers_right pairs right =
    all_through (λ p. RouterIsInRange (router_of_entry p)) RouterIsInRange router_of_entry (λ p h. h) pairs
    (each_right maps.Routers (λ p. RouterIsInRange (router_of_entry p)) (λ earlier p h. router_named p h.0 (once_right maps.Routers earlier p.key h.0 h.1).1 h.2) [] pairs right)

-- ---- names that are keys of one map

module _ (m : MapKind) (once : (earlier : List Key) (k : Key) → under_key m earlier k ≡ named_once m earlier k) where
  others : (name : List ℕ) (earlier : List Key) (pairs : List Pair) → list_any (has_text name) earlier ≡ true → map_faults m earlier (map entry_of pairs) ≡ [] → AllByRecursion (λ q. name ≡ key_text q.key → ⊥) pairs
  others name earlier [] has h = tt
  others name earlier (q ∷ qs) has h =
      let e = entry_right m earlier q qs h in
      let new = once_right m earlier q.key (e.0).0 (sym (once earlier q.key) ∙ (e.0).1) in
      let still : list_any (has_text name) (earlier ++ q.key ∷ []) ≡ true = list_any-append (has_text name) earlier (q.key ∷ []) ∙ or_left (list_any (has_text name) earlier) (list_any (has_text name) (q.key ∷ [])) has in
      ((λ same. true≢false (sym has ∙ ap (λ name. list_any (has_text name) earlier) same ∙ new.0)), others name (earlier ++ q.key ∷ []) qs still e.1)

  distinct : (earlier : List Key) (pairs : List Pair) → map_faults m earlier (map entry_of pairs) ≡ [] → EachBefore (λ p q. key_text p.key ≡ key_text q.key → ⊥) pairs
  distinct earlier [] h = tt
  distinct earlier (p ∷ ps) h =
      let e = entry_right m earlier p ps h in
      let here : list_any (has_text (key_text p.key)) (p.key ∷ []) ≡ true = or_left (has_text (key_text p.key) p.key) false ((bytes_eq-Decides (key_text p.key) (key_text p.key)).1 refl) in
      let there : list_any (has_text (key_text p.key)) (earlier ++ p.key ∷ []) ≡ true = list_any-append (has_text (key_text p.key)) earlier (p.key ∷ []) ∙ or_right (list_any (has_text (key_text p.key)) earlier) (list_any (has_text (key_text p.key)) (p.key ∷ [])) here in
      (others (key_text p.key) (earlier ++ p.key ∷ []) ps there e.1, distinct (earlier ++ p.key ∷ []) ps e.1)

each_through : {A B : Type 0} (R : A → A → Type 0) (S : B → B → Type 0) (f : A → B) → ((x y : A) → R x y → S (f x) (f y)) → (xs : List A) → EachBefore R xs → EachBefore S (map f xs)
each_through R S f each [] h = tt
each_through R S f each (x ∷ xs) h = (all_through (R x) (S (f x)) f (each x) xs h.0, each_through R S f each xs h.1)

-- ---- the whole

raw_in_range : (t : Tree) → IsRight maps.Top (entries_of t) → IsInRange (raw_of t)
raw_in_range t right =
    let pairs : List Pair = entries_of t in
    let acls = value_right maps.Top (codes "acls") (Map maps.Acls) refl pairs right in
    let routers = value_right maps.Top (codes "routers") (Map maps.Routers) refl pairs right in
    record {
      dps = below_right maps.Datapaths (λ pairs. AllByRecursion DpIsInRange (map datapath_of_entry pairs)) dps_right tt (value_at (codes "dps") pairs) (value_right maps.Top (codes "dps") (Map maps.Datapaths) refl pairs right);
      vlans = below_right maps.Vlans (λ pairs. AllByRecursion VlanIsInRange (map vlan_of_entry pairs)) vlans_right tt (value_at (codes "vlans") pairs) (value_right maps.Top (codes "vlans") (Map maps.Vlans) refl pairs right);
      acls = below_right maps.Acls (λ pairs. AllByRecursion (λ a. AllByRecursion RuleIsInRange a.rules) (map acl_of_entry pairs)) acls_right tt (value_at (codes "acls") pairs) acls;
      acl_names = below_right maps.Acls (λ pairs. EachBefore (λ a b. a.name ≡ b.name → ⊥) (map acl_of_entry pairs))
          (λ pairs right. each_through (λ p q. key_text p.key ≡ key_text q.key → ⊥) (λ a b. a.name ≡ b.name → ⊥) acl_of_entry (λ p q h. h) pairs (distinct maps.Acls (λ earlier k. refl) [] pairs right)) tt (value_at (codes "acls") pairs) acls;
      routers = below_right maps.Routers (λ pairs. AllByRecursion RouterIsInRange (map router_of_entry pairs)) routers_right tt (value_at (codes "routers") pairs) routers;
      router_names = below_right maps.Routers (λ pairs. EachBefore (λ r s. r.name ≡ s.name → ⊥) (map router_of_entry pairs))
          (λ pairs right. each_through (λ p q. key_text p.key ≡ key_text q.key → ⊥) (λ r s. r.name ≡ s.name → ⊥) router_of_entry (λ p q h. h) pairs (distinct maps.Routers (λ earlier k. refl) [] pairs right)) tt (value_at (codes "routers") pairs) routers;
    }

pub document_in_range : (t : Tree) → first_fault t ≡ None → IsInRange (raw_of t)
document_in_range t none = raw_in_range t (document_right t none)
