-- No two items of a route list have one prefix.
use Rattle.std.proofs.Common.{◌≡◌, ◌+◌, ◌-◌, ◌*◌, ◌/◌, ◌^◌, ◌<◌, ◌≤◌, ◌==◌, ◌&&◌, not, Bool, true, false, cond, if◌then◌else◌, Option, Some, None, List, ◌∷◌, ◌++◌, map, refl, sym, ap, ◌∙◌, arith, subst, true≢false}
use Rattle.std.specs.Prelude.{Contains, ◌⊎◌}
use Rattle.std.specs.List.{AllByRecursion, list_any, filter_map}
use Rattle.std.specs.Option.{option_map}
use Rattle.std.proofs.Common.{inl, inr}
use Rattle.std.proofs.lemmas.Bool.{eqb-true, and_parts}
use Rattle.std.proofs.lemmas.List.Folds.{Any-from_list_any, list_any-from_Any}
use Rattle.std.proofs.lemmas.Option.{none-some, same_Some}
use Rattle.net_base.specs.declared.address.Mac.{Mac}
use Rattle.net_base.specs.declared.numbers.DpId.{DpId}
use Rattle.conf_types.specs.declared.address.Net.{Net}
use Rattle.conf_types.specs.declared.state.NeighRec.{NeighRec}
use Rattle.conf_types.specs.declared.vlan.Route.{Route}
use Rattle.conf_types.specs.declared.vlan.Vlan.{Vlan}
use Rattle.conf_types.specs.Changes.{mac_of_neighbour}
use Rattle.conf_types.specs.Families.{width_of, is_same_ip, address_of, len_of}
use Rattle.conf_types.specs.Lists.{EachBefore}
use Rattle.conf_types.specs.Networks.{is_held, is_vip, Holds, AreApart, LiesIn, AreSame, HasNoHostBits, is_neighbour_address}
use Rattle.conf_types.specs.State.{IsSameNeighbour}
use Rattle.conf_types.specs.Valid.{IsVip, IsRoute}
use Rattle.conf_types.proofs.Families.{held as held_by, holds_own, is_that_ip}
use Rattle.packet_way.specs.declared.routes.RouteItem.{RouteItem}
use Rattle.packet_way.specs.Routes.{vip_item, hop_item, neighbour_item, network_item, route_item, items_of}
use Rattle.plan_base.proofs.Each.{all_from, all_append, all_map, all_filter_map, all_contains, all_by, all_across, before_from, before_append, before_map, before_filter_map, before_both}
use Rattle.route_compile.specs.Prefixes.{SamePrefix}
use Rattle.route_compile.proofs.Numbers.{turned, held_along, one_network, same_address, vip_short}

-- ---- where an item comes from

-- it lies in the network of a VIP
pub record IsInside (vips : List Net) (item : RouteItem) : Type 0 where
  pub vip : Net
  pub here : Contains vips vip
  pub longer : len_of vip ≤ item.len
  pub held : Holds vip item.ip

-- it is the network of a route
pub record IsAlong (routes : List Route) (item : RouteItem) : Type 0 where
  pub route : Route
  pub here : Contains routes route
  pub ip : item.ip ≡ address_of route.dst
  pub len : item.len ≡ len_of route.dst
  pub network : HasNoHostBits route.dst

abbrev pub IsOf : List Net → List Route → RouteItem → Type 0
IsOf vips routes item = IsInside vips item ⊎ IsAlong routes item

-- ---- items of apart networks and routes differ

abbrev pub Differ : RouteItem → RouteItem → Type 0
Differ a b = SamePrefix a b → ⊥

inside_two : (x y : Net) → AreApart x y → (a b : RouteItem) → len_of x ≤ a.len → Holds x a.ip → Holds y b.ip → Differ a b
inside_two x y apart a b longer held other = λ same. apart b.ip (held_along x a b longer held same) other

inside_along : (vip : Net) (route : Route) → (LiesIn route.dst vip → ⊥) → (a b : RouteItem) → len_of vip ≤ a.len → Holds vip a.ip → b.ip ≡ address_of route.dst → b.len ≡ len_of route.dst → Differ a b
inside_along vip route outside a b longer held ip len =
    λ same. outside (record { longer = (let e : a.len ≡ b.len = same.len in omega (arith, e, longer, len)); inside = subst (Holds vip) ip (held_along vip a b longer held same) })

along_two : (r s : Route) → (AreSame r.dst s.dst → ⊥) → HasNoHostBits r.dst → HasNoHostBits s.dst → (a b : RouteItem)
    → a.ip ≡ address_of r.dst → a.len ≡ len_of r.dst → b.ip ≡ address_of s.dst → b.len ≡ len_of s.dst → Differ a b
along_two r s others none none' a b ip len ip' len' =
    λ same. others (record { ip = one_network r.dst s.dst a b none none' ip len ip' len' same; len = sym len ∙ same.len ∙ len' })

-- ---- items of two parts of the routing set

module _ (vips : List Net) (routes : List Route) (more_vips : List Net) (more_routes : List Route)
    (apart : AllByRecursion (λ x. AllByRecursion (AreApart x) more_vips) vips)
    (others : AllByRecursion (λ r. AllByRecursion (λ s. AreSame r.dst s.dst → ⊥) more_routes) routes)
    (outside : (r : Route) → Contains routes r → (vip : Net) → Contains more_vips vip → LiesIn r.dst vip → ⊥)
    (outside' : (r : Route) → Contains more_routes r → (vip : Net) → Contains vips vip → LiesIn r.dst vip → ⊥) where
  differ : (a b : RouteItem) → IsOf vips routes a → IsOf more_vips more_routes b → Differ a b
  differ a b (inl x) (inl y) =
      inside_two x.vip y.vip (all_contains (AreApart x.vip) more_vips (all_contains (λ v. AllByRecursion (AreApart v) more_vips) vips apart x.vip x.here) y.vip y.here) a b x.longer x.held y.held
  differ a b (inl x) (inr s) = inside_along x.vip s.route (outside' s.route s.here x.vip x.here) a b x.longer x.held s.ip s.len
  differ a b (inr r) (inl y) = λ same. inside_along y.vip r.route (outside r.route r.here y.vip y.here) b a y.longer y.held r.ip r.len (turned a b same)
  differ a b (inr r) (inr s) =
      along_two r.route s.route (all_contains (λ t. AreSame r.route.dst t.dst → ⊥) more_routes (all_contains (λ q. AllByRecursion (λ t. AreSame q.dst t.dst → ⊥) more_routes) routes others r.route r.here) s.route s.here) r.network s.network a b r.ip r.len s.ip s.len

  pub differ_across : (xs ys : List RouteItem) → AllByRecursion (IsOf vips routes) xs → AllByRecursion (IsOf more_vips more_routes) ys → AllByRecursion (λ a. AllByRecursion (Differ a) ys) xs
  differ_across xs ys hs ks =
      all_from {P = IsOf vips routes} {Q = λ a. AllByRecursion (Differ a) ys} (λ a is_a. all_from {P = IsOf more_vips more_routes} {Q = Differ a} (λ b is_b. differ a b is_a is_b) ys ks) xs hs

-- ---- items of one VLAN

-- the length of an address alone
abbrev pub IsAlone : RouteItem → Type 0
IsAlone item = item.len ≡ width_of item.ip

abbrev IsShorter : RouteItem → Type 0
IsShorter item = item.len < width_of item.ip

alone_or_shorter : (a b : RouteItem) → IsAlone a → IsShorter b → Differ a b
alone_or_shorter a b alone short same =
    let w : width_of a.ip ≡ width_of b.ip = ap (λ f. f.width) same.family in
    let e : a.len ≡ b.len = same.len in
    omega (arith, alone, short, w, e)

module _ (neighbours : List NeighRec) (group : DpId) (w : Vlan) (vips : List Net) where
  -- what a neighbour gives
  pub record IsNeighbourItem (n : NeighRec) (item : RouteItem) : Type 0 where
    pub group_is : n.group.0 ≡ group.0
    pub vid_is : n.vid ≡ w.vid
    pub vip : Net
    pub here : Contains vips vip
    pub held : Holds vip n.ip
    pub mac : Mac
    pub mac_is : n.mac ≡ Some mac
    pub is : item ≡ hop_item w n.ip (width_of n.ip) mac

  pub of_neighbour : (n : NeighRec) (item : RouteItem) → neighbour_item group w vips n ≡ Some item → IsNeighbourItem n item
  of_neighbour n item e = one (n.group.0 == group.0 && n.vid == w.vid && list_any (λ vip. is_held vip n.ip) vips) refl n.mac refl e
    where
      one : (b : Bool) → (n.group.0 == group.0 && n.vid == w.vid && list_any (λ vip. is_held vip n.ip) vips) ≡ b → (m : Option Mac) → n.mac ≡ m
          → option_map (hop_item w n.ip (width_of n.ip)) (cond b m None) ≡ Some item → IsNeighbourItem n item
      one false t m is e = absurd (none-some item e)
      one true t None is e = absurd (none-some item e)
      one true t (Some mac) is e =
          let parts = and_parts (n.group.0 == group.0 && n.vid == w.vid) (list_any (λ vip. is_held vip n.ip) vips) t in
          let first = and_parts (n.group.0 == group.0) (n.vid == w.vid) parts.0 in
          let found = Any-from_list_any (λ vip. is_held vip n.ip) vips parts.1 in
          record {
            group_is = eqb-true n.group.0 group.0 first.0;
            vid_is = eqb-true n.vid w.vid first.1;
            vip = found.1;
            here = (found.0, found.2, found.3);
            held = held_by found.1 n.ip found.4;
            mac = mac;
            mac_is = is;
            is = sym (same_Some (hop_item w n.ip (width_of n.ip) mac) item e);
          }

  pub alone : (n : NeighRec) (item : RouteItem) → IsNeighbourItem n item → IsAlone item
  alone n item of = subst IsAlone (sym of.is) refl

  -- what a route gives
  pub record IsRouteItem (route : Route) (item : RouteItem) : Type 0 where
    pub mac : Mac
    pub mac_is : mac_of_neighbour neighbours group w.vid route.gw ≡ Some mac
    pub is : item ≡ hop_item w (address_of route.dst) (len_of route.dst) mac

  pub of_route : (route : Route) (item : RouteItem) → route_item neighbours group w route ≡ Some item → IsRouteItem route item
  of_route route item e = one (mac_of_neighbour neighbours group w.vid route.gw) refl e
    where
      one : (m : Option Mac) → mac_of_neighbour neighbours group w.vid route.gw ≡ m → option_map (hop_item w (address_of route.dst) (len_of route.dst)) m ≡ Some item → IsRouteItem route item
      one None is e = absurd (none-some item e)
      one (Some mac) is e = record { mac = mac; mac_is = is; is = sym (same_Some (hop_item w (address_of route.dst) (len_of route.dst) mac) item e) }

-- with these of the VLAN's VIPs
module _ (neighbours : List NeighRec) (group : DpId) (w : Vlan) (vips : List Net)
    (own : (vip : Net) → Contains vips vip → Contains w.vips vip)
    (are_vips : AllByRecursion IsVip w.vips)
    (apart : EachBefore AreApart vips)
    (routes : AllByRecursion IsRoute w.routes)
    (others : EachBefore (λ r s. AreSame r.dst s.dst → ⊥) w.routes)
    (outside : (r : Route) → Contains w.routes r → (vip : Net) → Contains vips vip → LiesIn r.dst vip → ⊥)
    (known : AllByRecursion (λ n. n.vid ≡ w.vid → is_neighbour_address w.vips n.ip ≡ true) neighbours)
    (keys : EachBefore (λ n m. IsSameNeighbour n m → ⊥) neighbours) where
  abbrev of_vips : List RouteItem
  of_vips = map vip_item vips

  abbrev of_neighbours : List RouteItem
  of_neighbours = filter_map (neighbour_item group w vips) neighbours

  abbrev of_networks : List RouteItem
  of_networks = map network_item vips

  abbrev of_routes : List RouteItem
  of_routes = filter_map (route_item neighbours group w) w.routes

  -- ---- where they come from

  short : (vip : Net) → Contains vips vip → len_of vip < width_of (address_of vip)
  short vip here = vip_short vip (all_contains IsVip w.vips are_vips vip (own vip here))

  vips_inside : AllByRecursion (IsInside vips) of_vips
  vips_inside =
      all_map vip_item (IsInside vips) vips
      (all_by (λ vip. IsInside vips (vip_item vip)) vips (λ vip here. record { vip = vip; here = here; longer = (let less = short vip here in omega (arith, less)); held = holds_own vip }))

  networks_inside : AllByRecursion (IsInside vips) of_networks
  networks_inside =
      all_map network_item (IsInside vips) vips
      (all_by (λ vip. IsInside vips (network_item vip)) vips (λ vip here. record { vip = vip; here = here; longer = omega arith; held = holds_own vip }))

  inside_neighbour : (n : NeighRec) (item : RouteItem) → IsNeighbourItem neighbours group w vips n item → IsInside vips item
  inside_neighbour n item of =
      let wide : width_of n.ip ≡ width_of (address_of of.vip) = ap (λ f. f.width) of.held.family in
      let less = short of.vip of.here in
      subst (IsInside vips) (sym of.is) (record { vip = of.vip; here = of.here; longer = omega (arith, wide, less); held = of.held })

  neighbours_inside : AllByRecursion (IsInside vips) of_neighbours
  neighbours_inside =
      all_filter_map (neighbour_item group w vips) (IsInside vips) neighbours
      (all_by (λ n. (item : RouteItem) → neighbour_item group w vips n ≡ Some item → IsInside vips item) neighbours
      (λ n here item e. inside_neighbour n item (of_neighbour neighbours group w vips n item e)))

  routes_along : AllByRecursion (IsAlong w.routes) of_routes
  routes_along =
      all_filter_map (route_item neighbours group w) (IsAlong w.routes) w.routes
      (all_by (λ r. (item : RouteItem) → route_item neighbours group w r ≡ Some item → IsAlong w.routes item) w.routes (λ r here item e.
      let of = of_route neighbours group w vips r item e in
      subst (IsAlong w.routes) (sym of.is) (record { route = r; here = here; ip = refl; len = refl; network = (all_contains IsRoute w.routes routes r here).network })))

  all_inside : AllByRecursion (IsInside vips) (of_vips ++ of_neighbours ++ of_networks)
  all_inside = all_append (IsInside vips) (of_vips ++ of_neighbours) of_networks (all_append (IsInside vips) of_vips of_neighbours vips_inside neighbours_inside) networks_inside

  pub items_are_of : AllByRecursion (IsOf vips w.routes) (items_of neighbours group w vips)
  items_are_of =
      all_append (IsOf vips w.routes) (of_vips ++ of_neighbours ++ of_networks) of_routes
      (all_from {P = IsInside vips} {Q = IsOf vips w.routes} (λ a is. inl is) _ all_inside)
      (all_from {P = IsAlong w.routes} {Q = IsOf vips w.routes} (λ a is. inr is) _ routes_along)

  -- ---- how long their prefixes are

  vips_alone : AllByRecursion IsAlone of_vips
  vips_alone = all_map vip_item IsAlone vips (all_by (λ vip. IsAlone (vip_item vip)) vips (λ vip here. refl))

  neighbours_alone : AllByRecursion IsAlone of_neighbours
  neighbours_alone =
      all_filter_map (neighbour_item group w vips) IsAlone neighbours
      (all_by (λ n. (item : RouteItem) → neighbour_item group w vips n ≡ Some item → IsAlone item) neighbours
      (λ n here item e. alone neighbours group w vips n item (of_neighbour neighbours group w vips n item e)))

  networks_short : AllByRecursion IsShorter of_networks
  networks_short = all_map network_item IsShorter vips (all_by (λ vip. IsShorter (network_item vip)) vips (λ vip here. short vip here))

  -- ---- each of a kind, and another of it

  two_vips : EachBefore Differ of_vips
  two_vips =
      before_map vip_item Differ vips
      (before_from {R = λ (x y : Net). (len_of x < width_of (address_of x)) × (len_of y < width_of (address_of y)) × AreApart x y} {S = λ (x y : Net). Differ (vip_item x) (vip_item y)}
      (λ x y h. inside_two x y h.2 (vip_item x) (vip_item y) (let less = h.0 in omega (arith, less)) (holds_own x) (holds_own y)) vips
      (before_both (λ (x : Net). len_of x < width_of (address_of x)) AreApart vips (all_by (λ (x : Net). len_of x < width_of (address_of x)) vips short) apart))

  two_networks : EachBefore Differ of_networks
  two_networks =
      before_map network_item Differ vips
      (before_from {R = AreApart} {S = λ (x y : Net). Differ (network_item x) (network_item y)} (λ x y h. inside_two x y h (network_item x) (network_item y) (omega arith) (holds_own x) (holds_own y)) vips apart)

  two_neighbours : EachBefore Differ of_neighbours
  two_neighbours =
      before_filter_map (neighbour_item group w vips) Differ neighbours
      (before_from {R = λ (n m : NeighRec). IsSameNeighbour n m → ⊥} {S = λ (n m : NeighRec). (a b : RouteItem) → neighbour_item group w vips n ≡ Some a → neighbour_item group w vips m ≡ Some b → Differ a b}
      (λ n m other a b e f same.
      let x = of_neighbour neighbours group w vips n a e in
      let y = of_neighbour neighbours group w vips m b f in
      other (record {
        groups = x.group_is ∙ sym y.group_is;
        vlans = x.vid_is ∙ sym y.vid_is;
        ips = sym (ap (λ i. i.ip) x.is) ∙ same_address a b (alone neighbours group w vips n a x) (alone neighbours group w vips m b y) same ∙ ap (λ i. i.ip) y.is;
      })) neighbours keys)

  two_routes : EachBefore Differ of_routes
  two_routes =
      before_filter_map (route_item neighbours group w) Differ w.routes
      (before_from {R = λ (r s : Route). IsRoute r × IsRoute s × (AreSame r.dst s.dst → ⊥)} {S = λ (r s : Route). (a b : RouteItem) → route_item neighbours group w r ≡ Some a → route_item neighbours group w s ≡ Some b → Differ a b}
      (λ r s h a b e f.
      let x = of_route neighbours group w vips r a e in
      let y = of_route neighbours group w vips s b f in
      along_two r s h.2 h.0.network h.1.network a b (ap (λ i. i.ip) x.is) (ap (λ i. i.len) x.is) (ap (λ i. i.ip) y.is) (ap (λ i. i.len) y.is))
      w.routes (before_both IsRoute (λ r s. AreSame r.dst s.dst → ⊥) w.routes routes others))

  -- ---- and of two kinds

  -- a VIP is no neighbour of its VLAN
  vip_and_neighbour : (vip : Net) → Contains vips vip → (n : NeighRec) → (n.vid ≡ w.vid → is_neighbour_address w.vips n.ip ≡ true) → (b : RouteItem) → neighbour_item group w vips n ≡ Some b → Differ (vip_item vip) b
  vip_and_neighbour vip here n is b e same =
      let y = of_neighbour neighbours group w vips n b e in
      let ips : address_of vip ≡ n.ip = same_address (vip_item vip) b refl (alone neighbours group w vips n b y) same ∙ ap (λ i. i.ip) y.is in
      let there : Contains w.vips vip = own vip here in
      let among : is_vip w.vips n.ip ≡ true = list_any-from_Any (λ v. is_same_ip (address_of v) n.ip) w.vips (there.0, vip, there.1, there.2, is_that_ip (address_of vip) n.ip ips) in
      let no : not (is_vip w.vips n.ip) ≡ true = (and_parts (list_any (λ v. is_held v n.ip) w.vips) (not (is_vip w.vips n.ip)) (is y.vid_is)).1 in
      true≢false (sym no ∙ ap not among)

  vips_and_neighbours : AllByRecursion (λ a. AllByRecursion (Differ a) of_neighbours) of_vips
  vips_and_neighbours =
      all_map vip_item (λ a. AllByRecursion (Differ a) of_neighbours) vips
      (all_by (λ vip. AllByRecursion (Differ (vip_item vip)) of_neighbours) vips (λ vip here.
      all_filter_map (neighbour_item group w vips) (Differ (vip_item vip)) neighbours
      (all_from {P = λ (n : NeighRec). n.vid ≡ w.vid → is_neighbour_address w.vips n.ip ≡ true} {Q = λ (n : NeighRec). (b : RouteItem) → neighbour_item group w vips n ≡ Some b → Differ (vip_item vip) b}
      (λ n is b e. vip_and_neighbour vip here n is b e) neighbours known)))

  with_networks : AllByRecursion (λ a. AllByRecursion (Differ a) of_networks) (of_vips ++ of_neighbours)
  with_networks =
      all_across {P = IsAlone} {Q = IsShorter} {R = Differ} alone_or_shorter _ _ (all_append IsAlone of_vips of_neighbours vips_alone neighbours_alone) networks_short

  with_routes : AllByRecursion (λ a. AllByRecursion (Differ a) of_routes) (of_vips ++ of_neighbours ++ of_networks)
  with_routes =
      all_across {P = IsInside vips} {Q = IsAlong w.routes} {R = Differ}
      (λ a b x r. inside_along x.vip r.route (outside r.route r.here x.vip x.here) a b x.longer x.held r.ip r.len) _ _ all_inside routes_along

  pub items_differ : EachBefore Differ (items_of neighbours group w vips)
  items_differ =
      before_append Differ (of_vips ++ of_neighbours ++ of_networks) of_routes
      (before_append Differ (of_vips ++ of_neighbours) of_networks (before_append Differ of_vips of_neighbours two_vips two_neighbours vips_and_neighbours) two_networks with_networks)
      two_routes with_routes
