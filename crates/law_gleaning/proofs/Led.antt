-- An address that a route list leads into a network is that of no VIP and of no neighbour that is known; and one that is such, in a
-- network of the routing set, is led into it.
use Rattle.std.proofs.Common.{◌≡◌, ℕ, zero, suc, ◌+◌, ◌-◌, ◌/◌, ◌^◌, ◌<◌, ◌≤◌, ◌==◌, ◌&&◌, ◌||◌, not, Bool, true, false, cond, is_some, Option, Some, None, List, [], ◌∷◌, ◌++◌, filter, map, find, inl, inr, refl, sym, ap, ◌∙◌, subst, arith, eq-eqb, eqb-true, true≢false, if◌then◌else◌}
use Rattle.std.specs.Prelude.{Contains}
use Rattle.std.specs.List.{AllByRecursion, cons_option, filter_map, list_any}
use Rattle.std.specs.Option.{option_map, option_map_or}
use Rattle.std.proofs.lemmas.Bool.{and_from, and_parts, cases_Bool, eqb-false}
use Rattle.net_base.specs.declared.address.Mac.{Mac}
use Rattle.net_base.specs.declared.numbers.DpId.{DpId}
use Rattle.conf_types.specs.declared.address.Ip.{Ip}
use Rattle.conf_types.specs.declared.address.Net.{Net}
use Rattle.conf_types.specs.declared.datapath.Dp.{Dp}
use Rattle.conf_types.specs.declared.family.Family.{Family}
use Rattle.conf_types.specs.declared.state.NeighRec.{NeighRec}
use Rattle.conf_types.specs.declared.vlan.Vlan.{Vlan}
use Rattle.conf_types.specs.Configuration.{Configuration, vlan_with}
use Rattle.conf_types.specs.Families.{address_of, family_of, ip_value, is_same_family, is_same_ip, len_of, width_of}
use Rattle.conf_types.specs.Groups.{group_of}
use Rattle.conf_types.specs.Lists.{EachBefore}
use Rattle.conf_types.specs.Networks.{AreApart, Holds, is_held, is_link_local, is_neighbour_address, is_vip}
use Rattle.conf_types.specs.Routing.{routing_set, vips_from, vips_of}
use Rattle.conf_types.specs.State.{State}
use Rattle.conf_types.proofs.Families.{held, holds_own, is_held_there, is_of_family, is_that_ip, same_ip, shared}
use Rattle.packet_way.specs.declared.routes.RouteItem.{RouteItem}
use Rattle.packet_way.specs.declared.routes.Target.TheVariants.{Gateway, Hop, Network}
use Rattle.packet_way.specs.Routes.{hop_item, item_holds, items_for, longest, neighbour_item, network_item, route_item, route_list, vip_item}
use Rattle.route_compile.proofs.RoutingSet.{IsWide, wide_used}
use Rattle.ctl_packets.specs.Packets.{is_reached, is_resolved, is_sought, network_vlan}
use Rattle.law_runs.specs.Members.{behind, in_filtered, in_flat, in_front, in_mapped, head_of, of_all, tail_of}
use Rattle.plan_units.specs.Facts.{apart_or_one, found, none_found, some_passes}
use Rattle.plan_units.specs.Laws.{IsSetting}
use Rattle.law_tables.proofs.Items.{From, InSet, Origin, any_true, in_item, not_inside, of_neighbour, of_network, of_route, of_vip, one_vip, origins, own, short, used, vips_are, whole_in}
use Rattle.law_tables.proofs.Longest.{Chosen, chosen}
use Rattle.law_gleaning.specs.Led.{routed_vips}

-- ---- lists and prefixes

in_some : {A B : Type 0} (f : A → Option B) (xs : List A) (x : A) (y : B) → Contains xs x → f x ≡ Some y → Contains (filter_map f xs) y
in_some f [] x y (k, lt, is) some = absurd (omega (arith, lt))
in_some {A = A} {B = B} f (z ∷ zs) x y (zero, lt, is) some = subst (λ (o : Option B). Contains (cons_option o (filter_map f zs)) y) (sym (ap f is ∙ some)) (head_of y (filter_map f zs))
in_some {A = A} {B = B} f (z ∷ zs) x y (suc k, lt, is) some = by (f z) (in_some f zs x y (k, omega (arith, lt), is) some)
  where
    by : (o : Option B) → Contains (filter_map f zs) y → Contains (cons_option o (filter_map f zs)) y
    by None there = there
    by (Some it) there = tail_of it (filter_map f zs) y there

-- an item holds its own address
own_item : (to : Ip) (item : RouteItem) → to ≡ item.ip → item_holds to item ≡ true
own_item to item same =
    let behind_it = width_of item.ip - item.len in
    and_from (is_same_family to item.ip) (ip_value to / 2 ^ behind_it == ip_value item.ip / 2 ^ behind_it) (is_of_family to item.ip (ap family_of same))
    (eq-eqb (ip_value to / 2 ^ behind_it) (ip_value item.ip / 2 ^ behind_it) (ap (λ (a : Ip). ip_value a / 2 ^ behind_it) same))

off : (b : Bool) → not b ≡ true → b ≡ false
off true is = absurd (true≢false (sym is))
off false is = refl

module _ (conf : Configuration) (now : State) (d : Dp) (setting : IsSetting conf now d) (v : Vlan) (v_in : Contains conf.vlans v) (to : Ip) where
  abbrev group : DpId
  group = group_of conf d.id

  abbrev set : List ℕ
  set = routing_set conf v.vid

  abbrev pub items : List RouteItem
  items = route_list conf now.neighbours group v.vid

  abbrev In : Vlan → Type 0
  In w = InSet conf now d setting v v_in w

  abbrev vips : Vlan → List Net
  vips w = used conf now d setting v v_in w

  -- ---- the items of the VLANs of the routing set

  in_items : (w : Vlan) → In w → (item : RouteItem) → Contains (items_for now.neighbours group v.vid w) item → Contains items item
  unfolding route_list
  in_items w s item c =
      in_flat (λ n. option_map_or (items_for now.neighbours group v.vid) (vlan_with conf.vlans n) []) set w.vid item s.among
      (subst (λ (o : Option Vlan). Contains (option_map_or (items_for now.neighbours group v.vid) o []) item) (sym s.is_vlan) c)

  module _ (w : Vlan) (s : In w) where
    abbrev vip_items : List RouteItem
    vip_items = map vip_item (vips w)

    abbrev near_items : List RouteItem
    near_items = filter_map (neighbour_item group w (vips w)) now.neighbours

    abbrev network_items : List RouteItem
    network_items = map network_item (vips w)

    abbrev far_items : List RouteItem
    far_items = filter_map (route_item now.neighbours group w) w.routes

    has_vip : (vip : Net) → Contains (vips w) vip → Contains items (vip_item vip)
    has_vip vip c =
        in_items w s (vip_item vip)
        (in_front (vip_items ++ near_items ++ network_items) far_items (vip_item vip) (in_front (vip_items ++ near_items) network_items (vip_item vip) (in_front vip_items near_items (vip_item vip) (in_mapped vip_item (vips w) vip c))))

    has_near : (n : NeighRec) (item : RouteItem) → Contains now.neighbours n → neighbour_item group w (vips w) n ≡ Some item → Contains items item
    has_near n item c is =
        in_items w s item
        (in_front (vip_items ++ near_items ++ network_items) far_items item (in_front (vip_items ++ near_items) network_items item (behind vip_items near_items item (in_some (neighbour_item group w (vips w)) now.neighbours n item c is))))

    has_network : (vip : Net) → Contains (vips w) vip → Contains items (network_item vip)
    has_network vip c =
        in_items w s (network_item vip)
        (in_front (vip_items ++ near_items ++ network_items) far_items (network_item vip) (behind (vip_items ++ near_items) network_items (network_item vip) (in_mapped network_item (vips w) vip c)))

  -- ---- networks that packets of the VLAN are routed by

  its_own : (w : Vlan) (vip : Net) → Contains (vips w) vip → Contains w.vips vip
  its_own w vip c = own conf now d setting v v_in w vip c

  in_conf : (w : Vlan) → In w → (vip : Net) → Contains (vips w) vip → Contains (vips_of conf w.vid) vip
  in_conf w s vip c = subst (λ (l : List Net). Contains l vip) (sym (vips_are conf now d setting v v_in w s)) (its_own w vip c)

  used_test : (w : Vlan) (vip : Net) → Contains (vips w) vip → (w.vid == v.vid || not (is_link_local vip)) ≡ true
  used_test w vip c = by (w.vid == v.vid) refl
    where
      by : (t : Bool) → (w.vid == v.vid) ≡ t → (w.vid == v.vid || not (is_link_local vip)) ≡ true
      by true same = ap (λ b. b || not (is_link_local vip)) same
      by false apart = ap (λ b. b || not (is_link_local vip)) apart ∙ ap not (of_all IsWide (vips w) (wide_used v.vid w (eqb-false w.vid v.vid apart)) vip c)

  into_used : (w : Vlan) (vip : Net) → Contains w.vips vip → (w.vid == v.vid || not (is_link_local vip)) ≡ true → Contains (vips w) vip
  into_used w vip c test = by (w.vid == v.vid) test
    where
      by : (t : Bool) → (t || not (is_link_local vip)) ≡ true → Contains (cond t w.vips (filter (λ (y : Net). not (is_link_local y)) w.vips)) vip
      by true is = c
      by false is = in_filtered (λ (y : Net). not (is_link_local y)) w.vips vip c is

  reached : (w : Vlan) (vip : Net) → Contains (vips w) vip → Holds vip to → is_reached v.vid w to ≡ true
  reached w vip c holds =
      any_true (λ (x : Net). is_held x to && (w.vid == v.vid || not (is_link_local x))) w.vips vip (its_own w vip c)
      (and_from (is_held vip to) (w.vid == v.vid || not (is_link_local vip)) (is_held_there vip to holds) (used_test w vip c))

  -- where the address is sought, and what is so of it there
  record Sought (n : ℕ) : Type 0 where
    vlan : Vlan
    in_set : In vlan
    vid : vlan.vid ≡ n
    net : Net
    net_in : Contains (vips vlan) net
    holds : Holds net to
    free : is_vip (vips_of conf n) to ≡ false

  sought : (n : ℕ) → Contains set n → is_sought conf v.vid to n ≡ true → Sought n
  sought n among is =
      let parts = and_parts (is_neighbour_address (vips_of conf n) to) (option_map_or (λ (x : Vlan). is_reached v.vid x to) (vlan_with conf.vlans n) false) is in
      let free = off (is_vip (vips_of conf n) to) (and_parts (list_any (λ (x : Net). is_held x to) (vips_of conf n)) (not (is_vip (vips_of conf n) to)) parts.0).1 in
      by (vlan_with conf.vlans n) refl parts.1 free
    where
      by : (o : Option Vlan) → vlan_with conf.vlans n ≡ o → option_map_or (λ (x : Vlan). is_reached v.vid x to) o false ≡ true → is_vip (vips_of conf n) to ≡ false → Sought n
      by None none none_reached free = absurd (true≢false (sym none_reached))
      by (Some w) some reached_there free =
          let number : w.vid ≡ n = eqb-true w.vid n (found (λ (y : Vlan). y.vid == n) conf.vlans w some).passes in
          let it = some_passes (λ (x : Net). is_held x to && (w.vid == v.vid || not (is_link_local x))) w.vips reached_there in
          let tests = and_parts (is_held it.0 to) (w.vid == v.vid || not (is_link_local it.0)) (it.1).passes in
          record {
            vlan = w;
            in_set = record { among = subst (Contains set) (sym number) among; is_vlan = ap (vlan_with conf.vlans) number ∙ some };
            vid = number;
            net = it.0;
            net_in = into_used w it.0 (it.1).within tests.1;
            holds = held it.0 to tests.0;
            free = free;
          }

  -- ---- an address that is led into a network

  module _ (w : Vlan) (s : In w) (vip : Net) (c : Contains (vips w) vip) (holds : Holds vip to) (most : AllByRecursion (λ (x : RouteItem). item_holds to x ≡ true → x.len ≤ len_of vip) items) where
    too_long : {P : Type 0} (item : RouteItem) → Contains items item → item_holds to item ≡ true → item.len ≡ width_of item.ip → P
    too_long item there holds_it whole =
        let longer : item.len ≤ len_of vip = of_all (λ (x : RouteItem). item_holds to x ≡ true → x.len ≤ len_of vip) items most item there holds_it in
        let less : len_of vip < width_of (address_of vip) = short conf now d setting v v_in w s vip c in
        let wide : width_of item.ip ≡ width_of (address_of vip) = ap (λ (f : Family). f.width) (sym (in_item to item holds_it).family ∙ holds.family) in
        absurd (omega (arith, longer, less, whole, wide))

    no_vip : is_vip (vips_of conf w.vid) to ≡ false
    no_vip =
        elim (cases_Bool (is_vip (vips_of conf w.vid) to)) [
          | inl is ↦
              let it = some_passes (λ (x : Net). is_same_ip (address_of x) to) (vips_of conf w.vid) is in
              let there : Contains w.vips it.0 = subst (λ (l : List Net). Contains l it.0) (vips_are conf now d setting v v_in w s) (it.1).within in
              let same : address_of it.0 ≡ to = same_ip (address_of it.0) to (it.1).passes in
              let in_it : Holds it.0 to = subst (Holds it.0) same (holds_own it.0) in
              let w_in = (found (λ (y : Vlan). y.vid == w.vid) conf.vlans w s.is_vlan).within in
              let one : it.0 ≡ vip = apart_or_one AreApart w.vips (of_all (λ (u : Vlan). EachBefore AreApart u.vips) conf.vlans setting.valid.routing.own_vips w w_in) it.0 vip there (its_own w vip c)
              (λ apart. apart to in_it holds) (λ apart. apart to holds in_it) in
              too_long (vip_item vip) (has_vip w s vip c) (own_item to (vip_item vip) (sym same ∙ ap address_of one)) refl
          | inr other ↦ other
        ]

    no_neighbour : is_resolved now.neighbours group w.vid to ≡ false
    no_neighbour =
        elim (cases_Bool (is_resolved now.neighbours group w.vid to)) [
          | inl is ↦ let it = some_passes (λ (n : NeighRec). n.group.0 == group.0 && n.vid == w.vid && is_same_ip n.ip to && is_some n.mac) now.neighbours is in known it.0 (it.1).within (it.1).passes
          | inr other ↦ other
        ]
      where
        known : {P : Type 0} (n : NeighRec) → Contains now.neighbours n → (n.group.0 == group.0 && n.vid == w.vid && is_same_ip n.ip to && is_some n.mac) ≡ true → P
        known n there is = by n.mac refl whole.1
          where
            whole : ((n.group.0 == group.0 && n.vid == w.vid && is_same_ip n.ip to) ≡ true) × (is_some n.mac ≡ true)
            whole = and_parts (n.group.0 == group.0 && n.vid == w.vid && is_same_ip n.ip to) (is_some n.mac) is

            place : ((n.group.0 == group.0 && n.vid == w.vid) ≡ true) × (is_same_ip n.ip to ≡ true)
            place = and_parts (n.group.0 == group.0 && n.vid == w.vid) (is_same_ip n.ip to) whole.0

            same : n.ip ≡ to
            same = same_ip n.ip to place.1

            in_vip : list_any (λ (x : Net). is_held x n.ip) (vips w) ≡ true
            in_vip = any_true (λ (x : Net). is_held x n.ip) (vips w) vip c (is_held_there vip n.ip (subst (Holds vip) (sym same) holds))

            tested : (n.group.0 == group.0 && n.vid == w.vid && list_any (λ (x : Net). is_held x n.ip) (vips w)) ≡ true
            tested = and_from (n.group.0 == group.0 && n.vid == w.vid) (list_any (λ (x : Net). is_held x n.ip) (vips w)) place.0 in_vip

            by : {P : Type 0} (o : Option Mac) → n.mac ≡ o → is_some n.mac ≡ true → P
            by None none some = absurd (true≢false (sym some ∙ ap (λ (o : Option Mac). is_some o) none))
            by (Some mac) is_mac some =
                let near : RouteItem = hop_item w n.ip (width_of n.ip) mac in
                let item : neighbour_item group w (vips w) n ≡ Some near =
                ap (λ (b : Bool). option_map (hop_item w n.ip (width_of n.ip)) (if b then n.mac else None)) tested ∙ ap (λ (o : Option Mac). option_map (hop_item w n.ip (width_of n.ip)) o) is_mac in
                too_long near (has_near w s n near there item) (own_item to near (sym same)) refl

    address : is_neighbour_address (vips_of conf w.vid) to ≡ true
    address =
        and_from (list_any (λ (x : Net). is_held x to) (vips_of conf w.vid)) (not (is_vip (vips_of conf w.vid) to))
        (any_true (λ (x : Net). is_held x to) (vips_of conf w.vid) vip (in_conf w s vip c) (is_held_there vip to holds)) (ap not no_vip)

    is_there : is_sought conf v.vid to w.vid ≡ true
    is_there =
        and_from (is_neighbour_address (vips_of conf w.vid) to) (option_map_or (λ (x : Vlan). is_reached v.vid x to) (vlan_with conf.vlans w.vid) false) address
        (ap (λ (o : Option Vlan). option_map_or (λ (x : Vlan). is_reached v.vid x to) o false) s.is_vlan ∙ reached w vip c holds)

    in_network : network_vlan conf v.vid to ≡ Some w.vid
    in_network = by (find (is_sought conf v.vid to) set) refl
      where
        by : (o : Option ℕ) → find (is_sought conf v.vid to) set ≡ o → o ≡ Some w.vid
        by None none = absurd (true≢false (sym is_there ∙ of_all (λ n. is_sought conf v.vid to n ≡ false) set (none_found (is_sought conf v.vid to) set none) w.vid s.among))
        by (Some n) is =
            let at = found (is_sought conf v.vid to) set n is in
            let it = sought n at.within at.passes in
            let pair = one_vip conf now d setting v v_in it.vlan w it.in_set s it.net vip it.net_in c to it.holds holds in
            ap (λ (k : ℕ). Some k) (sym it.vid ∙ ap (λ (t : ℕ × Net). t.0) pair)

  pub record Asked : Type 0 where
    pub other : ℕ
    pub routed : Contains set other
    pub vip : Net
    pub here : Contains (routed_vips conf v.vid other) vip
    pub holds : Holds vip to
    pub network : network_vlan conf v.vid to ≡ Some other
    pub unknown : is_resolved now.neighbours group other to ≡ false

  pub asked : (item : RouteItem) → longest items to ≡ Some item → item.to ≡ Network → Asked
  asked item is leads =
      let picked : Chosen items to (Some item) = subst (Chosen items to) is (chosen items to) in
      let origin = of_all (Origin conf now d setting v v_in) items (origins conf now d setting v v_in) item picked.0 in
      by origin.vlan origin.in_set item origin.way leads picked.1 picked.2
    where
      by : (w : Vlan) → In w → (it : RouteItem) → From conf now d setting v v_in w it → it.to ≡ Network → item_holds to it ≡ true → AllByRecursion (λ (x : RouteItem). item_holds to x ≡ true → x.len ≤ it.len) items → Asked
      by w s _ (of_vip vip c) leads holds most = absurd (let e : Gateway ≡ Network = leads in cc)
      by w s _ (of_neighbour n mac near six) leads holds most = absurd (let e : Hop w.vid w.mac mac ≡ Network = leads in cc)
      by w s _ (of_route route mac c is six) leads holds most = absurd (let e : Hop w.vid w.mac mac ≡ Network = leads in cc)
      by w s _ (of_network vip c) leads holds most =
          let in_vip : Holds vip to = held vip to holds in
          record {
            other = w.vid;
            routed = s.among;
            vip = vip;
            here = subst (λ (o : Option Vlan). Contains (option_map_or (vips_from v.vid) o []) vip) (sym s.is_vlan) c;
            holds = in_vip;
            network = in_network w s vip c in_vip most;
            unknown = no_neighbour w s vip c in_vip most;
          }

  -- ---- an address in a network, of no VIP, and of no neighbour that is known

  module _ (w : Vlan) (s : In w) (vip : Net) (c : Contains (vips w) vip) (holds : Holds vip to) (free : is_vip (vips_of conf w.vid) to ≡ false) (unknown : is_resolved now.neighbours group w.vid to ≡ false) where
    -- no other item that has the address is as long
    led_by : (x : Vlan) → In x → (item : RouteItem) → From conf now d setting v v_in x item → item_holds to item ≡ true → len_of vip ≤ item.len → item.to ≡ Network
    led_by x r _ (of_network other e) in_it longer = refl
    led_by x r _ (of_vip other e) in_it longer =
        let same : to ≡ address_of other = whole_in to (address_of other) (width_of (address_of other)) (in_item to (vip_item other) in_it) refl in
        let pair = one_vip conf now d setting v v_in x w r s other vip e c to (subst (Holds other) (sym same) (holds_own other)) holds in
        let one : to ≡ address_of vip = same ∙ ap (λ (t : ℕ × Net). address_of t.1) pair in
        absurd (true≢false (sym (any_true (λ (y : Net). is_same_ip (address_of y) to) (vips_of conf w.vid) vip (in_conf w s vip c) (is_that_ip (address_of vip) to (sym one))) ∙ free))
    led_by x r _ (of_neighbour n mac near six) in_it longer =
        let same : to ≡ n.ip = whole_in to n.ip (width_of n.ip) (in_item to (hop_item x n.ip (width_of n.ip) mac) in_it) refl in
        let pair = one_vip conf now d setting v v_in x w r s near.vip vip near.vip_in c to (subst (Holds near.vip) (sym same) near.held) holds in
        let vid : x.vid ≡ w.vid = ap (λ (t : ℕ × Net). t.0) pair in
        let tested : (n.group.0 == group.0 && n.vid == w.vid && is_same_ip n.ip to && is_some n.mac) ≡ true =
        and_from (n.group.0 == group.0 && n.vid == w.vid && is_same_ip n.ip to) (is_some n.mac)
        (and_from (n.group.0 == group.0 && n.vid == w.vid) (is_same_ip n.ip to)
        (and_from (n.group.0 == group.0) (n.vid == w.vid) (eq-eqb n.group.0 group.0 near.of_group) (eq-eqb n.vid w.vid (near.vid ∙ vid)))
        (is_that_ip n.ip to (sym same)))
        (ap (λ (o : Option Mac). is_some o) near.is_mac) in
        absurd (true≢false (sym (any_true (λ (m : NeighRec). m.group.0 == group.0 && m.vid == w.vid && is_same_ip m.ip to && is_some m.mac) now.neighbours n near.within tested) ∙ unknown))
    led_by x r _ (of_route route mac e is six) in_it longer =
        let prefix = in_item to (hop_item x (address_of route.dst) (len_of route.dst) mac) in_it in
        let in_route : Holds route.dst to = record { family = prefix.family; prefix = prefix.bits } in
        not_inside conf now d setting v v_in x w r s route vip e c longer (shared vip route.dst to longer holds in_route)

    led_into : (item : RouteItem) × (longest items to ≡ Some item) × (item.to ≡ Network)
    led_into = by (longest items to) refl (chosen items to)
      where
        in_network_item : item_holds to (network_item vip) ≡ true
        in_network_item = is_held_there vip to holds

        by : (o : Option RouteItem) → longest items to ≡ o → Chosen items to o → (item : RouteItem) × (longest items to ≡ Some item) × (item.to ≡ Network)
        by None is none = absurd (true≢false (sym in_network_item ∙ of_all (λ (x : RouteItem). item_holds to x ≡ false) items none (network_item vip) (has_network w s vip c)))
        by (Some item) is picked =
            let origin = of_all (Origin conf now d setting v v_in) items (origins conf now d setting v v_in) item picked.0 in
            let longer : len_of vip ≤ item.len = of_all (λ (x : RouteItem). item_holds to x ≡ true → x.len ≤ item.len) items picked.2 (network_item vip) (has_network w s vip c) in_network_item in
            (item, is, led_by origin.vlan origin.in_set item origin.way picked.1 longer)

  -- whatever VLAN it is of whose networks an address is in
  pub led_there : (n : ℕ) → network_vlan conf v.vid to ≡ Some n → is_resolved now.neighbours group n to ≡ false → (item : RouteItem) × (longest items to ≡ Some item) × (item.to ≡ Network)
  led_there n is unknown =
      let at = found (is_sought conf v.vid to) set n is in
      let it = sought n at.within at.passes in
      led_into it.vlan it.in_set it.net it.net_in it.holds (ap (λ (k : ℕ). is_vip (vips_of conf k) to) it.vid ∙ it.free) (ap (λ (k : ℕ). is_resolved now.neighbours group k to) it.vid ∙ unknown)
