-- The entries of routing are entries that a switch accepts, no two with one key.
use Rattle.std.proofs.Common.{◌≡◌, ℕ, ◌+◌, ◌-◌, ◌*◌, ◌/◌, ◌^◌, ◌<◌, ◌≤◌, ◌==◌, ◌&&◌, Bool, true, false, cond, if◌then◌else◌, Option, Some, None, List, [], ◌∷◌, ◌++◌, map, filter, find, refl, sym, ap, ◌∙◌, arith, subst, lit<, eq-eqb, inl, inr}
use Rattle.std.specs.Prelude.{Contains, IfSome, IsTrue, slice_get}
use Rattle.std.specs.List.{AllByRecursion, filter_map, cons_option, list_all}
use Rattle.std.specs.Option.{option_map_or, option_and_then}
use Rattle.std.proofs.Math.Nat.{mul-div_left, div-eq_of_lt}
use Rattle.std.proofs.lemmas.Nat.{pow_pos}
use Rattle.std.proofs.lemmas.Bool.{eqb-true}
use Rattle.std.proofs.lemmas.Option.{none-some}
use Rattle.net_base.specs.declared.address.Mac.{Mac}
use Rattle.net_base.specs.declared.field.Field.{Field}
use Rattle.net_base.specs.declared.numbers.DpId.{DpId}
use Rattle.net_base.specs.Address.{IsSixBytes}
use Rattle.net_base.specs.Field.{prefix_in}
use Rattle.net_base.specs.FieldId.{number_of}
use Rattle.net_base.specs.Numbers.{IsVid}
use Rattle.net_base.specs.WellFormed.{is_met, has_prerequisite}
use Rattle.of_match.specs.declared.entry.Entry.{Entry}
use Rattle.of_match.specs.declared.entry.Key.{Key}
use Rattle.of_match.specs.WellFormed.{AreInstrs}
use Rattle.conf_types.specs.declared.address.Ip.{Ip}
use Rattle.conf_types.specs.declared.address.Net.{Net}
use Rattle.conf_types.specs.declared.address.Net.TheVariants.{V4, V6}
use Rattle.conf_types.specs.declared.datapath.Dp.{Dp}
use Rattle.conf_types.specs.declared.family.Family.{Family}
use Rattle.conf_types.specs.declared.state.NeighRec.{NeighRec}
use Rattle.conf_types.specs.declared.vlan.Route.{Route}
use Rattle.conf_types.specs.declared.vlan.Vlan.{Vlan}
use Rattle.conf_types.specs.Changes.{mac_of_neighbour}
use Rattle.conf_types.specs.Configuration.{Configuration, vlan_with}
use Rattle.conf_types.specs.Families.{IsAddress, ipv4, ipv6, ip_value, width_of, is_same_ip, address_of}
use Rattle.conf_types.specs.Groups.{group_of}
use Rattle.conf_types.specs.Lists.{EachBefore}
use Rattle.conf_types.specs.Networks.{AreApart, Holds}
use Rattle.conf_types.specs.Routing.{routing_set, vips_from}
use Rattle.conf_types.specs.State.{State, IsValidState}
use Rattle.conf_types.specs.Valid.{IsValid, IsVlan, IsVip, IsRoute, IsStation}
use Rattle.conf_types.proofs.Families.{one_family, one_ip, held_fits, holds_own}
use Rattle.conf_types.proofs.Found.{all_found}
use Rattle.packet_way.specs.declared.routes.RouteItem.{RouteItem}
use Rattle.packet_way.specs.declared.routes.Target.{Target}
use Rattle.packet_way.specs.declared.routes.Target.TheVariants.{Gateway, Hop, Network}
use Rattle.packet_way.specs.Routes.{vip_item, neighbour_item, network_item, route_item, items_of, items_for, route_list}
use Rattle.plan_base.specs.Accepted.{IsFlowEntry, HaveDistinctKeys}
use Rattle.plan_base.specs.declared.table.Table.TheVariants.{Vip, Destination}
use Rattle.plan_base.specs.Actions.{to_controller, set_eth_src, set_eth_dst, set_vid, dec_ttl}
use Rattle.plan_base.specs.Entries.{leads_to, table_number}
use Rattle.plan_base.specs.Families.{IsFamily}
use Rattle.plan_base.specs.Fields.{eth_dst, vid_field, ip_dst, ip_proto, icmpv6_type}
use Rattle.plan_base.specs.MatchFields.{IsMatchField}
use Rattle.plan_base.proofs.Each.{all_from, all_append, all_map, all_passing, all_filter_map, all_flat_map, all_contains, all_by, all_across, before_from, before_append, before_map, before_filter, before_both}
use Rattle.plan_base.proofs.Accepted.{is_to_controller, is_set_vid, is_set_eth_src, is_set_eth_dst, are_instrs, made_of}
use Rattle.plan_base.proofs.Families.{is_row, is_prefix_field}
use Rattle.plan_base.proofs.MatchFields.{is_eth_dst, is_eth_type, is_vid_field, is_ip_proto, is_icmpv4_type, is_arp_tpa, is_icmpv6_type, is_nd_target, AreFields, are_fields}
use Rattle.route_compile.specs.Gateways.{has_gateway}
use Rattle.route_compile.specs.Prefixes.{SamePrefix, HaveAddresses}
use Rattle.route_compile.specs.Routes.{packets_for, item_fields, led_to, route_table, item_entry, no_route, is_item_of, family_fib, fib_of, fib}
use Rattle.route_compile.specs.Vips.{asked_entry, echo_entry, echo6_entry, advert_entry, heard_entry, end_entry, messages, vip_slice}
use Rattle.route_compile.proofs.Numbers.{vip_short}
use Rattle.route_compile.proofs.Items.{Differ, of_neighbour, of_route}
use Rattle.route_compile.proofs.RoutingSet.{within, used_is_own, own_vips_apart, route_items_differ}

-- ---- items

abbrev IsTarget : Target → Type 0
IsTarget Gateway = Unit {0}
IsTarget (Hop vid gateway mac) = IsVid vid × IsSixBytes gateway.0 × IsSixBytes mac.0
IsTarget Network = Unit {0}

record IsItem (item : RouteItem) : Type 0 where
  address : IsAddress item.ip
  len : item.len ≤ width_of item.ip
  target : IsTarget item.to

station : (mac : Mac) → IsStation mac.0 → IsSixBytes mac.0
station mac h = record { count = h.six; each = h.each }

has_address : (n : NeighRec) (mac : Mac) → IfSome n.mac (λ m. IsSixBytes m.0) → n.mac ≡ Some mac → IsSixBytes mac.0
has_address n mac h is = subst (λ (o : Option Mac). IfSome o (λ m. IsSixBytes m.0)) is h

module _ (neighbours : List NeighRec) (addresses : HaveAddresses neighbours) (group : DpId) where
  -- the address of a gateway that is resolved
  gateway_address : (vid : ℕ) (ip : Ip) (mac : Mac) → mac_of_neighbour neighbours group vid ip ≡ Some mac → IsSixBytes mac.0
  gateway_address vid ip mac e = one (find asked neighbours) refl e
    where
      asked : NeighRec → Bool
      asked n = n.group.0 == group.0 && n.vid == vid && is_same_ip n.ip ip

      one : (o : Option NeighRec) → find asked neighbours ≡ o → option_and_then (λ n. n.mac) o ≡ Some mac → IsSixBytes mac.0
      one None is e = absurd (none-some mac e)
      one (Some n) is e = has_address n mac (all_found (λ (m : NeighRec). IfSome m.mac (λ a. IsSixBytes a.0)) asked neighbours n addresses is) e

  module _ (w : Vlan) (vlan : IsVlan w) (vips : List Net) (own : (vip : Net) → Contains vips vip → Contains w.vips vip) where
    is_vip : (vip : Net) → Contains vips vip → IsVip vip
    is_vip vip here = all_contains IsVip w.vips vlan.vips vip (own vip here)

    of_vips : AllByRecursion IsItem (map vip_item vips)
    of_vips = all_map vip_item IsItem vips (all_by (λ v. IsItem (vip_item v)) vips (λ v here. record { address = (is_vip v here).address; len = omega arith; target = tt }))

    of_neighbours : AllByRecursion IsItem (filter_map (neighbour_item group w vips) neighbours)
    of_neighbours =
        all_filter_map (neighbour_item group w vips) IsItem neighbours
        (all_from {P = λ (n : NeighRec). IfSome n.mac (λ mac. IsSixBytes mac.0)} {Q = λ (n : NeighRec). (item : RouteItem) → neighbour_item group w vips n ≡ Some item → IsItem item}
        (λ n h item e.
        let of = of_neighbour neighbours group w vips n item e in
        let vip = is_vip of.vip of.here in
        let short = vip_short of.vip vip in
        subst IsItem (sym of.is) (record {
          address = held_fits of.vip n.ip (omega (arith, short)) vip.address of.held;
          len = omega arith;
          target = (vlan.number, station w.mac vlan.mac, has_address n of.mac h of.mac_is);
        })) neighbours addresses)

    of_networks : AllByRecursion IsItem (map network_item vips)
    of_networks =
        all_map network_item IsItem vips
        (all_by (λ v. IsItem (network_item v)) vips (λ v here. let vip = is_vip v here in let short = vip_short v vip in record { address = vip.address; len = omega (arith, short); target = tt }))

    of_routes : AllByRecursion IsItem (filter_map (route_item neighbours group w) w.routes)
    of_routes =
        all_filter_map (route_item neighbours group w) IsItem w.routes
        (all_from {P = IsRoute} {Q = λ (r : Route). (item : RouteItem) → route_item neighbours group w r ≡ Some item → IsItem item}
        (λ r is item e.
        let of = of_route neighbours group w vips r item e in
        subst IsItem (sym of.is) (record { address = is.address; len = is.length; target = (vlan.number, station w.mac vlan.mac, gateway_address w.vid r.gw of.mac of.mac_is) })) w.routes vlan.routes)

    are_items : AllByRecursion IsItem (items_of neighbours group w vips)
    are_items = all_append IsItem _ _ (all_append IsItem _ _ (all_append IsItem _ _ of_vips of_neighbours) of_networks) of_routes

  route_items : (conf : Configuration) → IsValid conf → (vid : ℕ) → AllByRecursion IsItem (route_list conf neighbours group vid)
  unfolding route_list
  route_items conf valid vid =
      all_flat_map (λ u. option_map_or (items_for neighbours group vid) (vlan_with conf.vlans u) []) IsItem (routing_set conf vid)
      (all_by (λ u. AllByRecursion IsItem (option_map_or (items_for neighbours group vid) (vlan_with conf.vlans u) [])) (routing_set conf vid) (λ u here. one u (vlan_with conf.vlans u) refl))
    where
      one : (u : ℕ) (o : Option Vlan) → vlan_with conf.vlans u ≡ o → AllByRecursion IsItem (option_map_or (items_for neighbours group vid) o [])
      one u None is = tt
      one u (Some w) is = are_items w (all_contains IsVlan conf.vlans valid.vlans.each w (within (λ x. x.vid == u) conf.vlans w is)) (vips_from vid w) (used_is_own vid w)

-- ---- fields of matches

abbrev value_at : ℕ → List Field → ℕ
value_at n fields = option_map_or (λ (f : Field). f.value) (slice_get fields n) 0

abbrev first_number : List Field → ℕ
first_number [] = 0
first_number (f ∷ more) = number_of f.id

abbrev fourth : List Field → Option Field
fourth (x ∷ y ∷ z ∷ f ∷ more) = Some f
fourth more = None

abbrev value_of : Option Field → ℕ
value_of None = 0
value_of (Some f) = f.value

-- the field of a prefix says its bits
same_bits : (f : Family) (ip other len : ℕ) → ip < 2 ^ f.width → other < 2 ^ f.width → ip_dst f ip len ≡ ip_dst f other len → ip / 2 ^ (f.width - len) ≡ other / 2 ^ (f.width - len)
same_bits f ip other len fits fits' same = one (len == 0) refl same
  where
    one : (b : Bool) → (len == 0) ≡ b → cond b None (Some (prefix_in f.width f.destination ip len)) ≡ cond b None (Some (prefix_in f.width f.destination other len)) → ip / 2 ^ (f.width - len) ≡ other / 2 ^ (f.width - len)
    one true is same =
        let e : f.width ≡ f.width - len = (let none : len ≡ 0 = eqb-true len 0 is in omega arith) in
        subst (λ (n : ℕ). ip / 2 ^ n ≡ other / 2 ^ n) e (div-eq_of_lt fits ∙ sym (div-eq_of_lt fits'))
    one false is same =
        let size = 2 ^ (f.width - len) in
        let some : 0 < size = pow_pos (f.width - len) in
        sym (mul-div_left (ip / size) some) ∙ ap (λ n. n / size) (ap value_of same) ∙ mul-div_left (other / size) some

-- ---- entries of items

are_led_to : (to : Target) → IsTarget to → AreInstrs (led_to to)
are_led_to Gateway h = lit< tt
are_led_to (Hop vid gateway mac) h =
    are_instrs (set_eth_src gateway ∷ set_eth_dst mac ∷ set_vid vid ∷ dec_ttl ∷ []) (Some Destination) (is_set_eth_src gateway h.1, (is_set_eth_dst mac h.2, (is_set_vid vid h.0, (tt, tt))))
are_led_to Network h = are_instrs (to_controller ∷ []) None (is_to_controller, tt)

-- an item of the family has its width
of_width : (f : Family) (item : RouteItem) → is_item_of f item ≡ true → width_of item.ip ≡ f.width
of_width f item is = eqb-true (width_of item.ip) f.width is

value_fits : (f : Family) (item : RouteItem) → IsItem item → is_item_of f item ≡ true → ip_value item.ip < 2 ^ f.width
value_fits f item is own = subst (λ (n : ℕ). ip_value item.ip < 2 ^ n) (of_width f item own) is.address

-- a family's fields for the gateway
module _ (f : Family) (fam : IsFamily f) (v : Vlan) (vlan : IsVlan v) where
  for_gateway : AreFields (packets_for f v)
  for_gateway =
      are_fields _ ((lit< tt, (lit< tt, tt)), ((lit< tt, tt), (tt, tt)))
      (is_eth_dst v.mac (station v.mac vlan.mac), (is_eth_type f.ether_type (is_row f fam).type_fits, (is_vid_field v.vid vlan.number, tt))) (refl, (refl, (refl, tt)))

  -- a destination asks for the EtherType before it
  asks_for : (ip len : ℕ) → IsTrue (has_prerequisite f.destination (packets_for f v ++ prefix_in f.width f.destination ip len ∷ []))
  asks_for ip len =
      ap (list_all (is_met (packets_for f v ++ prefix_in f.width f.destination ip len ∷ []))) (is_row f fam).asks ∙ rw (eq-eqb f.ether_type f.ether_type refl) refl

  prefix_fields : (ip len : ℕ) → ip < 2 ^ f.width → AreFields (packets_for f v ++ prefix_in f.width f.destination ip len ∷ [])
  prefix_fields ip len fits =
      let after = (is_row f fam).order in
      are_fields _ ((lit< tt, (lit< tt, (omega (arith, after), tt))), ((lit< tt, (omega (arith, after), tt)), ((after, tt), (tt, tt))))
      (is_eth_dst v.mac (station v.mac vlan.mac), (is_eth_type f.ether_type (is_row f fam).type_fits, (is_vid_field v.vid vlan.number, (is_prefix_field f fam ip len fits, tt))))
      (refl, (refl, (refl, (asks_for ip len, tt))))

  are_item_fields : (item : RouteItem) → ip_value item.ip < 2 ^ f.width → AreFields (item_fields f v item)
  are_item_fields item fits = one (item.len == 0)
    where
      one : (b : Bool) → AreFields (packets_for f v ++ cons_option (cond b None (Some (prefix_in f.width f.destination (ip_value item.ip) item.len))) [])
      one true = for_gateway
      one false = prefix_fields (ip_value item.ip) item.len fits

  is_item_entry : (item : RouteItem) → IsItem item → is_item_of f item ≡ true → IsFlowEntry (item_entry f v item)
  is_item_entry item is own =
      let w = of_width f item own in
      let narrow = (is_row f fam).narrow in
      made_of (route_table f) (10 + item.len) _ _ (omega (arith, is.len, w, narrow)) (are_item_fields item (value_fits f item is own)) (are_led_to item.to is.target)

  is_no_route : IsFlowEntry (no_route f v)
  is_no_route = made_of (route_table f) 9 _ _ (lit< tt) for_gateway tt

  -- ---- their keys

  -- what stands behind the three fields of all packets for the gateway
  behind : (o : Option Field) → fourth (packets_for f v ++ cons_option o []) ≡ o
  behind None = refl
  behind (Some x) = refl

  keys_differ : (a b : RouteItem) → IsItem a → IsItem b → is_item_of f a ≡ true → is_item_of f b ≡ true → (item_entry f v a).key ≡ (item_entry f v b).key → SamePrefix a b
  keys_differ a b is_a is_b own own' same =
      let priority : 10 + a.len ≡ 10 + b.len = ap (λ (k : Key). k.priority) same in
      let len : a.len ≡ b.len = omega arith in
      let w = of_width f a own in
      let w' = of_width f b own' in
      let fields : ip_dst f (ip_value a.ip) a.len ≡ ip_dst f (ip_value b.ip) b.len =
      sym (behind (ip_dst f (ip_value a.ip) a.len)) ∙ ap (λ (k : Key). fourth k.fields) same ∙ behind (ip_dst f (ip_value b.ip) b.len) in
      let bits : ip_value a.ip / 2 ^ (f.width - a.len) ≡ ip_value b.ip / 2 ^ (f.width - a.len) =
      same_bits f (ip_value a.ip) (ip_value b.ip) a.len (value_fits f a is_a own) (value_fits f b is_b own') (fields ∙ ap (ip_dst f (ip_value b.ip)) (sym len)) in
      let here : width_of a.ip - a.len ≡ f.width - a.len = omega (arith, w) in
      let there : f.width - a.len ≡ width_of b.ip - b.len = omega (arith, w', len) in
      record { family = one_family a.ip b.ip (w ∙ sym w'); len = len; bits = ap (λ (n : ℕ). ip_value a.ip / 2 ^ n) here ∙ bits ∙ ap (λ (n : ℕ). ip_value b.ip / 2 ^ n) there }

  -- ---- the family's table

  abbrev Unlike : Entry → Entry → Type 0
  Unlike e g = e.key ≡ g.key → ⊥

  module _ (items : List RouteItem) (are : AllByRecursion IsItem items) where
    abbrev own_items : List RouteItem
    own_items = filter (is_item_of f) items

    family_is_accepted : AllByRecursion IsFlowEntry (family_fib f v items)
    family_is_accepted =
        all_append IsFlowEntry (map (item_entry f v) own_items) (no_route f v ∷ [])
        (all_map (item_entry f v) IsFlowEntry own_items
        (all_passing (λ (i : RouteItem). IsFlowEntry (item_entry f v i)) (is_item_of f) items
        (all_from {P = IsItem} {Q = λ (i : RouteItem). is_item_of f i ≡ true → IsFlowEntry (item_entry f v i)} (λ i is own. is_item_entry i is own) items are)))
        (is_no_route, tt)

    family_in_table : AllByRecursion (λ (e : Entry). e.key.table ≡ table_number (route_table f)) (family_fib f v items)
    family_in_table =
        all_append (λ (e : Entry). e.key.table ≡ table_number (route_table f)) (map (item_entry f v) own_items) (no_route f v ∷ [])
        (all_map (item_entry f v) (λ (e : Entry). e.key.table ≡ table_number (route_table f)) own_items (all_by (λ (i : RouteItem). (item_entry f v i).key.table ≡ table_number (route_table f)) own_items (λ i here. refl)))
        (refl, tt)

    family_keys : EachBefore Differ items → EachBefore Unlike (family_fib f v items)
    family_keys differ = before_append Unlike (map (item_entry f v) own_items) (no_route f v ∷ []) others (tt, tt) last
      where
        IsOwn : RouteItem → Type 0
        IsOwn i = IsItem i × (is_item_of f i ≡ true)

        own_are : AllByRecursion IsOwn own_items
        own_are = all_passing IsOwn (is_item_of f) items (all_from {P = IsItem} {Q = λ (i : RouteItem). is_item_of f i ≡ true → IsOwn i} (λ i is own. (is, own)) items are)

        others : EachBefore Unlike (map (item_entry f v) own_items)
        others =
            before_map (item_entry f v) Unlike own_items
            (before_from {R = λ (a b : RouteItem). IsOwn a × IsOwn b × Differ a b} {S = λ (a b : RouteItem). Unlike (item_entry f v a) (item_entry f v b)}
            (λ a b h same. let x = h.0 in let y = h.1 in h.2 (keys_differ a b x.0 y.0 x.1 y.1 same)) own_items
            (before_both IsOwn Differ own_items own_are (before_filter Differ (is_item_of f) items differ)))

        last : AllByRecursion (λ (e : Entry). AllByRecursion (Unlike e) (no_route f v ∷ [])) (map (item_entry f v) own_items)
        last =
            all_map (item_entry f v) (λ (e : Entry). AllByRecursion (Unlike e) (no_route f v ∷ [])) own_items
            (all_by (λ (i : RouteItem). AllByRecursion (Unlike (item_entry f v i)) (no_route f v ∷ [])) own_items
            (λ i here. ((λ same. let e : 10 + i.len ≡ 9 = ap (λ (k : Key). k.priority) same in omega arith), tt)))

-- ---- tables 4 and 5 of a VLAN

module _ (conf : Configuration) (valid : IsValid conf) (state : State) (now : IsValidState conf state) (addresses : HaveAddresses state.neighbours) (d : Dp) (v : Vlan) (is_vlan : Contains conf.vlans v) where
  vlan : IsVlan v
  vlan = all_contains IsVlan conf.vlans valid.vlans.each v is_vlan

  abbrev items : List RouteItem
  items = route_list conf state.neighbours (group_of conf d.id) v.vid

  are_items_here : AllByRecursion IsItem items
  are_items_here = route_items state.neighbours addresses (group_of conf d.id) conf valid v.vid

  -- of a family
  module _ (f : Family) (fam : IsFamily f) where
    table_is_accepted : AllByRecursion IsFlowEntry (fib_of f conf state.neighbours d v)
    table_is_accepted = one (has_gateway d v)
      where
        one : (b : Bool) → AllByRecursion IsFlowEntry (cond b (family_fib f v items) [])
        one true = family_is_accepted f fam v vlan items are_items_here
        one false = tt

    stands_there : AllByRecursion (λ (e : Entry). e.key.table ≡ table_number (route_table f)) (fib_of f conf state.neighbours d v)
    stands_there = one (has_gateway d v)
      where
        one : (b : Bool) → AllByRecursion (λ (e : Entry). e.key.table ≡ table_number (route_table f)) (cond b (family_fib f v items) [])
        one true = family_in_table f fam v vlan items are_items_here
        one false = tt

    table_keys : HaveDistinctKeys (fib_of f conf state.neighbours d v)
    table_keys = one (has_gateway d v)
      where
        one : (b : Bool) → HaveDistinctKeys (cond b (family_fib f v items) [])
        one true = family_keys f fam v vlan items are_items_here (route_items_differ conf valid state now (group_of conf d.id) v is_vlan)
        one false = tt

  pub fib_is_accepted : AllByRecursion IsFlowEntry (fib conf state.neighbours d v)
  fib_is_accepted = all_append IsFlowEntry (fib_of ipv4 conf state.neighbours d v) (fib_of ipv6 conf state.neighbours d v) (table_is_accepted ipv4 (inl refl)) (table_is_accepted ipv6 (inr refl))

  pub fib_keys_are_distinct : HaveDistinctKeys (fib conf state.neighbours d v)
  fib_keys_are_distinct =
      before_append (λ (e g : Entry). e.key ≡ g.key → ⊥) (fib_of ipv4 conf state.neighbours d v) (fib_of ipv6 conf state.neighbours d v) (table_keys ipv4 (inl refl)) (table_keys ipv6 (inr refl))
      (all_across {P = λ (e : Entry). e.key.table ≡ 4} {Q = λ (e : Entry). e.key.table ≡ 5} {R = λ (e g : Entry). e.key ≡ g.key → ⊥}
      (λ e g four five same. let t : e.key.table ≡ g.key.table = ap (λ (k : Key). k.table) same in omega (arith, four, five, t)) _ _ (stands_there ipv4 (inl refl)) (stands_there ipv6 (inr refl)))

-- ---- table 6 of a VLAN

abbrev Other : Entry → Entry → Type 0
Other e f = e.key ≡ f.key → ⊥

module _ (conf : Configuration) (valid : IsValid conf) (d : Dp) (v : Vlan) (is_vlan : Contains conf.vlans v) where
  is_one : IsVlan v
  is_one = all_contains IsVlan conf.vlans valid.vlans.each v is_vlan

  told : AreInstrs (leads_to (to_controller ∷ []) None)
  told = are_instrs (to_controller ∷ []) None (is_to_controller, tt)

  to_it : IsMatchField (eth_dst v.mac)
  to_it = is_eth_dst v.mac (station v.mac is_one.mac)

  of_vlan : IsMatchField (vid_field v.vid)
  of_vlan = is_vid_field v.vid is_one.number

  is_asked_entry : (vip : Net) → IsVip vip → IsFlowEntry (asked_entry v vip)
  is_asked_entry (V4 net) is =
      made_of Vip 30 _ _ (lit< tt)
      (are_fields _ ((lit< tt, (lit< tt, tt)), ((lit< tt, tt), (tt, tt))) (is_eth_type 0x0806 (lit< tt), (of_vlan, (is_arp_tpa net.ip.0 is.address, tt))) (refl, (refl, (refl, tt)))) told
  is_asked_entry (V6 net) is =
      made_of Vip 30 _ _ (lit< tt)
      (are_fields _ ((lit< tt, (lit< tt, (lit< tt, (lit< tt, tt)))), ((lit< tt, (lit< tt, (lit< tt, tt))), ((lit< tt, (lit< tt, tt)), ((lit< tt, tt), (tt, tt)))))
      (is_eth_type 0x86dd (lit< tt), (of_vlan, (is_ip_proto 58 (lit< tt), (is_icmpv6_type 135 (lit< tt), (is_nd_target net.ip.0 is.address, tt))))) (refl, (refl, (refl, (refl, (refl, tt)))))) told

  is_echo_entry : IsFlowEntry (echo_entry v)
  is_echo_entry =
      made_of Vip 30 _ _ (lit< tt)
      (are_fields _ ((lit< tt, (lit< tt, (lit< tt, (lit< tt, tt)))), ((lit< tt, (lit< tt, (lit< tt, tt))), ((lit< tt, (lit< tt, tt)), ((lit< tt, tt), (tt, tt)))))
      (to_it, (is_eth_type 0x0800 (lit< tt), (of_vlan, (is_ip_proto 1 (lit< tt), (is_icmpv4_type 8 (lit< tt), tt))))) (refl, (refl, (refl, (refl, (refl, tt)))))) told

  -- a message of ICMPv6 to the gateway
  message_fields : (kind : ℕ) → kind < 2 ^ 8 → AreFields (packets_for ipv6 v ++ ip_proto 58 ∷ icmpv6_type kind ∷ [])
  message_fields kind less =
      are_fields _ ((lit< tt, (lit< tt, (lit< tt, (lit< tt, tt)))), ((lit< tt, (lit< tt, (lit< tt, tt))), ((lit< tt, (lit< tt, tt)), ((lit< tt, tt), (tt, tt)))))
      (to_it, (is_eth_type 0x86dd (lit< tt), (of_vlan, (is_ip_proto 58 (lit< tt), (is_icmpv6_type kind less, tt))))) (refl, (refl, (refl, (refl, (refl, tt)))))

  is_echo6_entry : IsFlowEntry (echo6_entry v)
  is_echo6_entry = made_of Vip 30 _ _ (lit< tt) (message_fields 128 (lit< tt)) told

  is_advert_entry : IsFlowEntry (advert_entry v)
  is_advert_entry = made_of Vip 20 _ _ (lit< tt) (message_fields 136 (lit< tt)) told

  is_heard_entry : IsFlowEntry (heard_entry v)
  is_heard_entry =
      made_of Vip 20 _ _ (lit< tt)
      (are_fields _ ((lit< tt, (lit< tt, tt)), ((lit< tt, tt), (tt, tt))) (to_it, (is_eth_type 0x0806 (lit< tt), (of_vlan, tt))) (refl, (refl, (refl, tt)))) told

  is_end_entry : IsFlowEntry (end_entry v)
  is_end_entry = made_of Vip 10 _ _ (lit< tt) (are_fields _ ((lit< tt, tt), (tt, tt)) (to_it, (of_vlan, tt)) (refl, (refl, tt))) tt

  pub vips_are_accepted : AllByRecursion IsFlowEntry (vip_slice d v)
  vips_are_accepted = one (has_gateway d v)
    where
      one : (b : Bool) → AllByRecursion IsFlowEntry (cond b (map (asked_entry v) v.vips ++ messages v) [])
      one true =
          all_append IsFlowEntry (map (asked_entry v) v.vips) (messages v)
          (all_map (asked_entry v) IsFlowEntry v.vips (all_from {P = IsVip} {Q = λ (x : Net). IsFlowEntry (asked_entry v x)} (λ x is. is_asked_entry x is) v.vips is_one.vips))
          (is_echo_entry, (is_echo6_entry, (is_advert_entry, (is_heard_entry, (is_end_entry, tt)))))
      one false = tt

  -- ---- their keys

  priorities : (e f : Entry) → (e.key.priority ≡ f.key.priority → ⊥) → Other e f
  priorities e f apart same = apart (ap (λ (k : Key). k.priority) same)

  fields_at : (n : ℕ) (e f : Entry) → (value_at n e.key.fields ≡ value_at n f.key.fields → ⊥) → Other e f
  fields_at n e f apart same = apart (ap (λ (k : Key). value_at n k.fields) same)

  -- two VIPs that are one
  one_vip : {P : Type 0} (x y : Net) → AreApart x y → address_of x ≡ address_of y → P
  one_vip x y apart same = absurd (apart (address_of x) (holds_own x) (subst (Holds y) (sym same) (holds_own y)))

  two_asked : (x y : Net) → AreApart x y → Other (asked_entry v x) (asked_entry v y)
  two_asked (V4 x) (V4 y) apart same = one_vip (V4 x) (V4 y) apart (one_ip (address_of (V4 x)) (address_of (V4 y)) refl (ap (λ (k : Key). value_at 2 k.fields) same))
  two_asked (V6 x) (V6 y) apart same = one_vip (V6 x) (V6 y) apart (one_ip (address_of (V6 x)) (address_of (V6 y)) refl (ap (λ (k : Key). value_at 4 k.fields) same))
  two_asked (V4 x) (V6 y) apart same = let e : ◌≡◌ {A = ℕ} 0x0806 0x86dd = ap (λ (k : Key). value_at 0 k.fields) same in omega (arith, e)
  two_asked (V6 x) (V4 y) apart same = let e : ◌≡◌ {A = ℕ} 0x86dd 0x0806 = ap (λ (k : Key). value_at 0 k.fields) same in omega (arith, e)

  -- the EtherType is the first that is asked of one who asks for a VIP
  first_of : (x : Net) → first_number (asked_entry v x).key.fields ≡ 5
  first_of (V4 x) = refl
  first_of (V6 x) = refl

  for_it : (x : Net) (e : Entry) → first_number e.key.fields ≡ 3 → Other (asked_entry v x) e
  for_it x e is same = let five : 5 ≡ first_number e.key.fields = sym (first_of x) ∙ ap (λ (k : Key). first_number k.fields) same in omega (arith, five, is)

  asked_and_others : (x : Net) → AllByRecursion (Other (asked_entry v x)) (messages v)
  asked_and_others x =
      (for_it x (echo_entry v) refl, (for_it x (echo6_entry v) refl, (for_it x (advert_entry v) refl, (for_it x (heard_entry v) refl, (for_it x (end_entry v) refl, tt)))))

  two_messages : EachBefore Other (messages v)
  two_messages = (
    (fields_at 1 (echo_entry v) (echo6_entry v) (λ e. omega (arith, e)), (priorities (echo_entry v) (advert_entry v) (λ e. omega (arith, e)), (priorities (echo_entry v) (heard_entry v) (λ e. omega (arith, e)), (priorities (echo_entry v) (end_entry v) (λ e. omega (arith, e)), tt)))),
    (
      (priorities (echo6_entry v) (advert_entry v) (λ e. omega (arith, e)), (priorities (echo6_entry v) (heard_entry v) (λ e. omega (arith, e)), (priorities (echo6_entry v) (end_entry v) (λ e. omega (arith, e)), tt))),
      (
        (fields_at 1 (advert_entry v) (heard_entry v) (λ e. omega (arith, e)), (priorities (advert_entry v) (end_entry v) (λ e. omega (arith, e)), tt)),
        ((priorities (heard_entry v) (end_entry v) (λ e. omega (arith, e)), tt), (tt, tt)),
      ),
    ),
  )

  pub vip_keys_are_distinct : HaveDistinctKeys (vip_slice d v)
  vip_keys_are_distinct = one (has_gateway d v)
    where
      one : (b : Bool) → HaveDistinctKeys (cond b (map (asked_entry v) v.vips ++ messages v) [])
      one true =
          before_append Other (map (asked_entry v) v.vips) (messages v)
          (before_map (asked_entry v) Other v.vips (before_from {R = AreApart} {S = λ (x y : Net). Other (asked_entry v x) (asked_entry v y)} two_asked v.vips (own_vips_apart conf valid v is_vlan)))
          two_messages
          (all_map (asked_entry v) (λ e. AllByRecursion (Other e) (messages v)) v.vips (all_by (λ x. AllByRecursion (Other (asked_entry v x)) (messages v)) v.vips (λ x here. asked_and_others x)))
      one false = tt

pub ruleset accepted_laws = (fib_is_accepted, vips_are_accepted)

pub ruleset key_laws = (fib_keys_are_distinct, vip_keys_are_distinct)
