-- What holds of each entry of a plan: by the entries that each part of it is made of, and by its parts.
use Rattle.std.specs.Prelude.{◌≡◌, ℕ, ◌+◌, ◌==◌, ◌&&◌, ◌||◌, Bool, true, List, [], ◌∷◌, ◌++◌, map, filter, Option, Some, None, Contains, option_to_list, if◌then◌else◌}
use Rattle.std.specs.List.{AllByRecursion, filter_map, flat_map, enumerate_from, cons_option}
use Rattle.std.specs.Option.{option_map, option_map_or}
use Rattle.std.proofs.Common.{refl, inl, inr}
use Rattle.net_base.specs.declared.field.Field.{Field}
use Rattle.net_base.specs.declared.field.FieldId.TheVariants.{EthDst, EthSrc}
use Rattle.net_base.specs.declared.address.Mac.{Mac}
use Rattle.net_base.specs.Field.{exact}
use Rattle.of_match.specs.declared.entry.Entry.{Entry}
use Rattle.stack_paths.specs.Stack.{Stack}
use Rattle.stack_paths.specs.Chosen.{hop_of}
use Rattle.conf_types.specs.declared.acl.Rule.{Rule}
use Rattle.conf_types.specs.declared.address.Net.{Net}
use Rattle.conf_types.specs.declared.datapath.Dp.{Dp}
use Rattle.conf_types.specs.declared.datapath.Port.{Port}
use Rattle.conf_types.specs.declared.family.Family.{Family}
use Rattle.conf_types.specs.declared.state.HostRec.{HostRec}
use Rattle.conf_types.specs.declared.state.NeighRec.{NeighRec}
use Rattle.conf_types.specs.declared.vlan.Vlan.{Vlan}
use Rattle.conf_types.specs.Attached.{rules_of}
use Rattle.conf_types.specs.Configuration.{Configuration, port_with}
use Rattle.conf_types.specs.Families.{ipv4, ipv6}
use Rattle.conf_types.specs.Groups.{group_of}
use Rattle.conf_types.specs.Membership.{is_stack, is_accepting, has_edge_member}
use Rattle.conf_types.specs.State.{State, is_permanent}
use Rattle.packet_way.specs.declared.drops.TheConstants.{BROADCAST, PVST_GROUP, BRIDGE_GROUP}
use Rattle.of_match.specs.declared.ether_type.TheConstants.{LLDP}
use Rattle.packet_way.specs.declared.routes.RouteItem.{RouteItem}
use Rattle.packet_way.specs.Known.{stack_of}
use Rattle.packet_way.specs.Routes.{route_list}
use Rattle.plan_base.specs.Families.{IsFamily}
use Rattle.plan_base.specs.Fields.{eth_src, eth_type}
use Rattle.acl_compile.specs.declared.place.Place.{Place}
use Rattle.acl_compile.specs.declared.place.Place.TheVariants.{AtPort, AtVlan}
use Rattle.acl_compile.specs.Rows.{rule_entry, rule_entry_for, rule_fields, rule_priority, denial}
use Rattle.acl_compile.specs.Slices.{rule_entries, acl_entries, port_acl, vlan_acl, port_entry, has_acls}
use Rattle.vlan_compile.specs.declared.flood.Flood.{Flood}
use Rattle.vlan_compile.specs.declared.flood.Flood.TheVariants.{Group, Unicast}
use Rattle.vlan_compile.specs.declared.flood.Ingress.{Ingress}
use Rattle.vlan_compile.specs.declared.flood.Ingress.TheVariants.{Any, At}
use Rattle.vlan_compile.specs.Admissions.{admissions, from_stacks, from_edges, lldp_heard, from_stack, without_tag, with_tag}
use Rattle.vlan_compile.specs.Misses.{misses, miss}
use Rattle.vlan_compile.specs.Sources.{sources, at_its_port, elsewhere}
use Rattle.vlan_compile.specs.Destinations.{destinations, at_port, from_its_port, to_its_port, over_stack}
use Rattle.vlan_compile.specs.Floods.{floods, floods_to, flood_entry, has_flooded, is_apart}
use Rattle.vlan_compile.specs.Vlans.{native_vlan, tagged_vlans, vlans_of}
use Rattle.route_compile.specs.Gateways.{has_gateway}
use Rattle.route_compile.specs.Routes.{fib, fib_of, family_fib, is_item_of, item_entry, no_route}
use Rattle.route_compile.specs.Vips.{vip_slice, asked_entry, echo_entry, echo6_entry, advert_entry, heard_entry, end_entry, messages}
use Rattle.law_runs.specs.Members.{all_joined, all_mapped, all_filtered, all_flat, all_if, all_by, head_of, tail_of}
use Rattle.plan_units.specs.Fixed.{drops, bridge_drops, lldp_drops, broadcast_drops, drop, gateways, from_group, passes, fixed}
use Rattle.plan_units.specs.Units.{of_port, of_vlan, of_host, of_routes, hosts_of, plan}

-- ---- each part, by the entries that it is made of

module _ (P : Entry → Type 0) where
  abbrev Each : List Entry → Type 0
  Each es = AllByRecursion P es

  when : (b : Bool) (xs : List Entry) → Each xs → Each (if b then xs else [])
  when b xs all = all_if P b xs [] (λ is. all) (λ is. tt)

  each_of : {A : Type 0} (f : A → Entry) (xs : List A) → ((x : A) → Contains xs x → P (f x)) → Each (map f xs)
  each_of f xs h = all_mapped P f xs (all_by (λ x. P (f x)) xs h)

  of_one : {A : Type 0} (f : A → Entry) (o : Option A) → ((x : A) → o ≡ Some x → P (f x)) → Each (option_to_list (option_map f o))
  of_one f None h = tt
  of_one f (Some x) h = (h x refl, tt)

  -- ---- tables 0 and 2

  -- the entries of rules, whatever their places
  abbrev pub OfRules : Place → Dp → List Rule → Type 0
  OfRules at d rules =
      (priority : ℕ) (rule : Rule) (fields : List Field) → Contains rules rule → rule_fields at rule.fields ≡ Some fields
      → P (rule_entry_for at d priority rule fields)

  of_rules : (at : Place) (d : Dp) (n : ℕ) (rules : List Rule) → OfRules at d rules
      → Each (filter_map (λ numbered. rule_entry at d (rule_priority numbered.0) numbered.1) (enumerate_from n rules))
  of_rules at d n [] h = tt
  of_rules at d n (rule ∷ more) h =
      one (rule_fields at rule.fields) refl _ (of_rules at d (n + 1) more (λ priority r fields c is. h priority r fields (tail_of rule more r c) is))
    where
      one : (o : Option (List Field)) → rule_fields at rule.fields ≡ o → (es : List Entry) → Each es → Each (cons_option (option_map (rule_entry_for at d (rule_priority n) rule) o) es)
      one None is es all = all
      one (Some fields) is es all = (h (rule_priority n) rule fields (head_of rule more) is, all)

  of_acls : (at : Place) (conf : Configuration) (d : Dp) (acls : List (List ℕ)) → OfRules at d (rules_of conf acls) → P (denial at) → Each (acl_entries at conf d acls)
  of_acls at conf d acls rules end =
      all_joined P (rule_entries at d (rules_of conf acls)) (denial at ∷ []) (of_rules at d 0 (rules_of conf acls) rules) (end, tt)

  pub port_acl_by : (conf : Configuration) (d : Dp) (i : Port) → OfRules (AtPort i.no) d (rules_of conf i.acls) → P (denial (AtPort i.no)) → P (port_entry i.no) → Each (port_acl conf d i)
  port_acl_by conf d i rules end alone =
      all_if P (is_accepting i && has_acls i.acls) (acl_entries (AtPort i.no) conf d i.acls) _ (λ is. of_acls (AtPort i.no) conf d i.acls rules end)
      (λ is. when (is_accepting i || is_stack i) (port_entry i.no ∷ []) (alone, tt))

  pub vlan_acl_by : (conf : Configuration) (d : Dp) (v : Vlan) → OfRules (AtVlan v.vid) d (rules_of conf v.acls) → P (denial (AtVlan v.vid)) → Each (vlan_acl conf d v)
  vlan_acl_by conf d v rules end =
      when (has_acls v.acls && has_edge_member d v.vid) (acl_entries (AtVlan v.vid) conf d v.acls) (of_acls (AtVlan v.vid) conf d v.acls rules end)

  -- ---- table 1

  pub admissions_by : (conf : Configuration) (d : Dp) (i : Port)
      → P (lldp_heard i) → ((v : Vlan) → P (from_stack i v)) → ((v : Vlan) → native_vlan conf i ≡ Some v → P (without_tag d i v)) → ((v : Vlan) → P (with_tag d i v)) → Each (admissions conf d i)
  admissions_by conf d i lldp stack native tagged =
      all_joined P (from_stacks conf i) (from_edges conf d i)
      (when (is_stack i) (lldp_heard i ∷ map (from_stack i) conf.vlans) (lldp, each_of (from_stack i) conf.vlans (λ v c. stack v)))
      (when (is_accepting i) (option_to_list (option_map (without_tag d i) (native_vlan conf i)) ++ map (with_tag d i) (tagged_vlans conf i))
      (all_joined P (option_to_list (option_map (without_tag d i) (native_vlan conf i))) (map (with_tag d i) (tagged_vlans conf i))
      (of_one (without_tag d i) (native_vlan conf i) native) (each_of (with_tag d i) (tagged_vlans conf i) (λ v c. tagged v))))

  pub drops_by : (conf : Configuration) (d : Dp)
      → P (drop 33 (exact EthDst PVST_GROUP)) → P (drop 33 (exact EthDst BRIDGE_GROUP)) → P (drop 32 (eth_type LLDP)) → P (drop 31 (exact EthSrc BROADCAST))
      → ((mac : Mac) → Contains (gateways conf) mac → P (drop 30 (eth_src mac))) → Each (drops conf d)
  drops_by conf d cisco bridges lldp broadcast spoofed =
      all_joined P (bridge_drops d) _ (when d.drop_bpdu _ (cisco, (bridges, tt)))
      (all_joined P (lldp_drops d) _ (when d.drop_lldp _ (lldp, tt))
      (all_joined P (broadcast_drops d) _ (when d.drop_broadcast _ (broadcast, tt))
      (when d.drop_spoofed _ (each_of (λ mac. drop 30 (eth_src mac)) (gateways conf) spoofed))))

  -- ---- table 3

  pub misses_by : (conf : Configuration) (d : Dp) (i : Port) (hosts : List HostRec) → ((v : Vlan) → P (miss conf hosts d i v)) → Each (misses conf d i hosts)
  misses_by conf d i hosts h = when (is_accepting i) (map (miss conf hosts d i) (vlans_of conf i)) (each_of (miss conf hosts d i) (vlans_of conf i) (λ v c. h v))

  pub sources_by : (conf : Configuration) (d : Dp) (h : HostRec) (moment : ℕ) → P (at_its_port conf moment h) → P (elsewhere h) → Each (sources conf d h moment)
  sources_by conf d h moment here other =
      all_joined P (if h.dp.0 == d.id.0 then at_its_port conf moment h ∷ [] else []) _
      (when (h.dp.0 == d.id.0) (at_its_port conf moment h ∷ []) (here, tt)) (when (is_permanent conf h) (elsewhere h ∷ []) (other, tt))

  -- ---- tables 4 to 6

  pub family_by : (f : Family) (conf : Configuration) (neighbours : List NeighRec) (d : Dp) (v : Vlan)
      → ((item : RouteItem) → Contains (route_list conf neighbours (group_of conf d.id) v.vid) item → is_item_of f item ≡ true → P (item_entry f v item)) → P (no_route f v)
      → Each (fib_of f conf neighbours d v)
  family_by f conf neighbours d v each end =
      let items = route_list conf neighbours (group_of conf d.id) v.vid in
      when (has_gateway d v) (family_fib f v items)
      (all_joined P (map (item_entry f v) (filter (is_item_of f) items)) (no_route f v ∷ [])
      (all_mapped P (item_entry f v) (filter (is_item_of f) items)
      (all_filtered (λ item. P (item_entry f v item)) (is_item_of f) items (all_by (λ item. is_item_of f item ≡ true → P (item_entry f v item)) items each))) (end, tt))

  -- each family in turn
  pub fib_by : (conf : Configuration) (neighbours : List NeighRec) (d : Dp) (v : Vlan)
      → ((f : Family) → IsFamily f → (item : RouteItem) → Contains (route_list conf neighbours (group_of conf d.id) v.vid) item → is_item_of f item ≡ true → P (item_entry f v item))
      → ((f : Family) → IsFamily f → P (no_route f v)) → Each (fib conf neighbours d v)
  fib_by conf neighbours d v each end =
      all_joined P (fib_of ipv4 conf neighbours d v) (fib_of ipv6 conf neighbours d v)
      (family_by ipv4 conf neighbours d v (each ipv4 (inl refl)) (end ipv4 (inl refl)))
      (family_by ipv6 conf neighbours d v (each ipv6 (inr refl)) (end ipv6 (inr refl)))

  pub vips_by : (d : Dp) (v : Vlan) → ((vip : Net) → P (asked_entry v vip)) → P (echo_entry v) → P (echo6_entry v) → P (advert_entry v) → P (heard_entry v) → P (end_entry v) → Each (vip_slice d v)
  vips_by d v asked echo echo6 advert heard end =
      when (has_gateway d v) (map (asked_entry v) v.vips ++ messages v)
      (all_joined P (map (asked_entry v) v.vips) (messages v) (each_of (asked_entry v) v.vips (λ vip c. asked vip)) (echo, (echo6, (advert, (heard, (end, tt))))))

  -- ---- table 7

  pub destinations_by : (d : Dp) (h : HostRec) (stack : Stack)
      → ((q : Port) → port_with d.ports h.port ≡ Some q → P (from_its_port d h q) × P (to_its_port d h q)) → ((hop : ℕ) → hop_of stack d.id h.dp ≡ Some hop → P (over_stack h hop))
      → Each (destinations d h stack)
  destinations_by d h stack port over =
      all_if P (h.dp.0 == d.id.0) (option_map_or (at_port d h) (port_with d.ports h.port) []) _
      (λ is. here (port_with d.ports h.port) port) (λ is. of_one (over_stack h) (hop_of stack d.id h.dp) over)
    where
      here : (o : Option Port) → ((q : Port) → o ≡ Some q → P (from_its_port d h q) × P (to_its_port d h q)) → Each (option_map_or (at_port d h) o [])
      here None two = tt
      here (Some q) two = ((two q refl).0, ((two q refl).1, tt))

  -- ---- table 8

  floods_to_by : (d : Dp) (v : Vlan) (stack : Stack) → ((flood : Flood) (from : Ingress) → P (flood_entry stack d v flood from)) → (flood : Flood) → Each (floods_to stack d v flood)
  floods_to_by d v stack h flood =
      all_joined P (if has_flooded stack d v then flood_entry stack d v flood Any ∷ [] else []) _ (when (has_flooded stack d v) (flood_entry stack d v flood Any ∷ []) (h flood Any, tt))
      (each_of (λ (i : Port). flood_entry stack d v flood (At i.no)) (filter (is_apart d v) d.ports) (λ i c. h flood (At i.no)))

  pub floods_by : (d : Dp) (v : Vlan) (stack : Stack) → ((flood : Flood) (from : Ingress) → P (flood_entry stack d v flood from)) → Each (floods d v stack)
  floods_by d v stack h = all_joined P (floods_to stack d v Unicast) (floods_to stack d v Group) (floods_to_by d v stack h Unicast) (floods_to_by d v stack h Group)

-- ---- the plan, by its parts

module _ (conf : Configuration) (now : State) (d : Dp) (P : Entry → Type 0) where
  pub record OfParts : Type 0 where
    pub drops : AllByRecursion P (drops conf d)
    pub groups : AllByRecursion P (from_group ∷ passes)
    pub port_acls : (i : Port) → Contains d.ports i → AllByRecursion P (port_acl conf d i)
    pub admissions : (i : Port) → Contains d.ports i → AllByRecursion P (admissions conf d i)
    pub misses : (i : Port) → Contains d.ports i → AllByRecursion P (misses conf d i now.hosts)
    pub vlan_acls : (v : Vlan) → Contains conf.vlans v → AllByRecursion P (vlan_acl conf d v)
    pub vips : (v : Vlan) → Contains conf.vlans v → AllByRecursion P (vip_slice d v)
    pub floods : (v : Vlan) → Contains conf.vlans v → AllByRecursion P (floods d v (stack_of conf now.ups))
    pub sources : (h : HostRec) → Contains (hosts_of conf now d) h → AllByRecursion P (sources conf d h now.moment)
    pub destinations : (h : HostRec) → Contains (hosts_of conf now d) h → AllByRecursion P (destinations d h (stack_of conf now.ups))
    pub routes : (v : Vlan) → Contains conf.vlans v → AllByRecursion P (fib conf now.neighbours d v)

  pub of_plan : OfParts → AllByRecursion P (plan conf now d)
  of_plan f =
      all_joined P (fixed conf d) _ (all_joined P (drops conf d) (from_group ∷ passes) f.drops f.groups)
      (all_joined P (flat_map (of_port conf now d) d.ports) _
      (all_flat P (of_port conf now d) d.ports (all_by (λ i. AllByRecursion P (of_port conf now d i)) d.ports (λ i c. all_joined P (port_acl conf d i) _ (f.port_acls i c) (all_joined P (admissions conf d i) _ (f.admissions i c) (f.misses i c)))))
      (all_joined P (flat_map (of_vlan conf now d) conf.vlans) _
      (all_flat P (of_vlan conf now d) conf.vlans (all_by (λ v. AllByRecursion P (of_vlan conf now d v)) conf.vlans (λ v c. all_joined P (vlan_acl conf d v) _ (f.vlan_acls v c) (all_joined P (vip_slice d v) _ (f.vips v c) (f.floods v c)))))
      (all_joined P (flat_map (of_host conf now d) (hosts_of conf now d)) _
      (all_flat P (of_host conf now d) (hosts_of conf now d) (all_by (λ h. AllByRecursion P (of_host conf now d h)) (hosts_of conf now d) (λ h c. all_joined P (sources conf d h now.moment) _ (f.sources h c) (f.destinations h c))))
      (all_flat P (of_routes conf now d) conf.vlans (all_by (λ v. AllByRecursion P (of_routes conf now d v)) conf.vlans f.routes)))))
