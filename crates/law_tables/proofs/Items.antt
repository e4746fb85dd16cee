-- Where the items of a route list come from; those with one prefix lead to the same.
use Rattle.std.proofs.Common.{◌≡◌, ℕ, zero, suc, ◌+◌, ◌-◌, ◌*◌, ◌/◌, ◌%◌, ◌^◌, ◌<◌, ◌≤◌, ◌==◌, ◌&&◌, ◌||◌, not, Bool, true, false, List, [], ◌∷◌, ◌++◌, map, Option, Some, None, refl, sym, ap, ◌∙◌, subst, true≢false, eqb-true, eq-eqb, arith, if◌then◌else◌}
use Rattle.std.specs.Prelude.{Contains, IfSome, option_and_then}
use Rattle.std.specs.List.{AllByRecursion, cons_option, filter_map, find, flat_map, list_any}
use Rattle.std.specs.Option.{option_map, option_map_or}
use Rattle.std.proofs.Math.Nat.{div-add-mod, div-one}
use Rattle.std.proofs.lemmas.Bool.{and_parts, and_left, and_right, eqb-false}
use Rattle.std.proofs.lemmas.Option.{same_Some, none-some}
use Rattle.net_base.specs.declared.address.Mac.{Mac}
use Rattle.net_base.specs.declared.numbers.DpId.{DpId}
use Rattle.net_base.specs.Address.{IsSixBytes}
use Rattle.conf_types.specs.declared.address.Ip.{Ip}
use Rattle.conf_types.specs.declared.address.Net.{Net}
use Rattle.conf_types.specs.declared.datapath.Dp.{Dp}
use Rattle.conf_types.specs.declared.state.NeighRec.{NeighRec}
use Rattle.conf_types.specs.declared.vlan.Route.{Route}
use Rattle.conf_types.specs.declared.vlan.Router.{Router}
use Rattle.conf_types.specs.declared.vlan.Vlan.{Vlan}
use Rattle.conf_types.specs.Changes.{mac_of_neighbour}
use Rattle.conf_types.specs.Configuration.{Configuration, vlan_with}
use Rattle.conf_types.specs.Families.{IsAddress, family_of, ip_value, width_of, is_same_family, is_same_ip, address_of, len_of, host_bits}
use Rattle.conf_types.specs.Groups.{group_of}
use Rattle.conf_types.specs.Lists.{EachBefore, is_among}
use Rattle.conf_types.specs.Networks.{Holds, AreApart, AreApartOrLocal, LiesIn, AreSame, HasNoHostBits, is_held, is_link_local, is_vip}
use Rattle.conf_types.specs.Routing.{router_with, routing_set, vips_of, vips_in, vips_from, routes_of, routes_in}
use Rattle.conf_types.specs.State.{State, IsNeighbour, IsSameNeighbour}
use Rattle.conf_types.specs.Valid.{IsVlan, IsVip, IsRoute, RoutesAreValid}
use Rattle.conf_types.proofs.Families.{same_family, one_ip, is_that_ip, held as held_by, holds_own, held_fits}
use Rattle.packet_way.specs.declared.routes.RouteItem.{RouteItem}
use Rattle.packet_way.specs.declared.routes.Target.TheVariants.{Hop}
use Rattle.packet_way.specs.Routes.{vip_item, hop_item, neighbour_item, network_item, route_item, items_for, route_list, item_holds}
use Rattle.route_compile.proofs.Numbers.{vip_short}
use Rattle.route_compile.proofs.RoutingSet.{IsWide, used_is_own, wide_used}
use Rattle.law_runs.specs.Members.{head_of, tail_of, in_mapped, in_flat, of_all, all_by, all_joined, all_mapped, all_flat}
use Rattle.plan_units.specs.Facts.{found, none_found, some_passes, apart_or_one}
use Rattle.plan_units.specs.Laws.{IsSetting}

-- ---- members of lists that are made of the members of a list

each_mapped : {A B : Type 0} (R : B → B → Type 0) (f : A → B) (xs : List A) → EachBefore R (map f xs) → EachBefore (λ x y. R (f x) (f y)) xs
each_mapped R f [] h = tt
each_mapped {A = A} R f (x ∷ xs) h = (back xs h.0, each_mapped R f xs h.1)
  where
    back : (ys : List A) → AllByRecursion (R (f x)) (map f ys) → AllByRecursion (λ y. R (f x) (f y)) ys
    back [] all = tt
    back (y ∷ ys) all = (all.0, back ys all.1)

module _ {A : Type 0} (f : ℕ → List A) where
  -- each with the number that it comes from
  abbrev pub with_number : ℕ → A → ℕ × A
  with_number n x = (n, x)

  abbrev numbered : List ℕ → List (ℕ × A)
  numbered ns = flat_map (λ n. map (with_number n) (f n)) ns

  without : (n : ℕ) (xs : List A) (more : List (ℕ × A)) (rest : List A) → map (λ (s : ℕ × A). s.1) more ≡ rest → map (λ (s : ℕ × A). s.1) (map (with_number n) xs ++ more) ≡ xs ++ rest
  without n [] more rest is = is
  without n (x ∷ xs) more rest is = ap (λ l. x ∷ l) (without n xs more rest is)

  numbered_is : (ns : List ℕ) → map (λ (s : ℕ × A). s.1) (numbered ns) ≡ flat_map f ns
  numbered_is [] = refl
  numbered_is (n ∷ ns) = without n (f n) (numbered ns) (flat_map f ns) (numbered_is ns)

  -- two that the relation doesn't hold of, in neither order, are one, and come from one number
  pub one_of : (R : A → A → Type 0) (ns : List ℕ) → EachBefore R (flat_map f ns) → (n m : ℕ) (x y : A) → Contains ns n → Contains (f n) x → Contains ns m → Contains (f m) y
      → (R x y → ⊥) → (R y x → ⊥) → with_number n x ≡ with_number m y
  one_of R ns each n m x y cn cx cm cy nxy nyx =
      apart_or_one (λ (s t : ℕ × A). R s.1 t.1) (numbered ns) (each_mapped R (λ (s : ℕ × A). s.1) (numbered ns) (subst (λ l. EachBefore R l) (sym (numbered_is ns)) each))
      (with_number n x) (with_number m y)
      (in_flat (λ k. map (with_number k) (f k)) ns n (with_number n x) cn (in_mapped (with_number n) (f n) x cx))
      (in_flat (λ k. map (with_number k) (f k)) ns m (with_number m y) cm (in_mapped (with_number m) (f m) y cy))
      nxy nyx

pub any_true : {A : Type 0} (test : A → Bool) (xs : List A) (x : A) → Contains xs x → test x ≡ true → list_any test xs ≡ true
any_true test [] x (k, lt, is) passes = absurd (omega (arith, lt))
any_true test (y ∷ ys) x (zero, lt, is) passes = rw (subst (λ z. test z ≡ true) (sym is) passes) refl
any_true test (y ∷ ys) x (suc k, lt, is) passes = put (test y) (any_true test ys x (k, omega (arith, lt), is) passes)
  where
    put : (b : Bool) → list_any test ys ≡ true → (b || list_any test ys) ≡ true
    put true more = refl
    put false more = more

-- ---- prefixes

-- the address has the first bits of another one of its family
pub record InPrefix (to at : Ip) (len : ℕ) : Type 0 where
  pub family : family_of to ≡ family_of at
  pub bits : ip_value to / 2 ^ (width_of at - len) ≡ ip_value at / 2 ^ (width_of at - len)

pub in_item : (to : Ip) (item : RouteItem) → item_holds to item ≡ true → InPrefix to item.ip item.len
in_item to item is =
    let behind = width_of item.ip - item.len in
    let parts = and_parts (is_same_family to item.ip) (ip_value to / 2 ^ behind == ip_value item.ip / 2 ^ behind) is in
    record { family = same_family to item.ip parts.0; bits = eqb-true (ip_value to / 2 ^ behind) (ip_value item.ip / 2 ^ behind) parts.1 }

-- a network holds what is in its prefix
in_net : (net : Net) (to : Ip) → InPrefix to (address_of net) (len_of net) → Holds net to
in_net net to h = record { family = h.family; prefix = h.bits }

one_width : (a b : Ip) → family_of a ≡ family_of b → width_of a ≡ width_of b
one_width a b same = ap (λ f. f.width) same

-- in a prefix of all bits is one address
pub whole_in : (to at : Ip) (len : ℕ) → InPrefix to at len → len ≡ width_of at → to ≡ at
whole_in to at len h whole =
    let none : width_of at - len ≡ 0 = omega (arith, whole) in
    one_ip to at h.family
    (sym (div-one (ip_value to)) ∙ ap (λ (n : ℕ). ip_value to / 2 ^ n) (sym none) ∙ h.bits ∙ ap (λ (n : ℕ). ip_value at / 2 ^ n) none ∙ div-one (ip_value at))

-- two networks without host bits that hold one address have one number
one_number : (size ip a b : ℕ) → a % size ≡ 0 → b % size ≡ 0 → ip / size ≡ a / size → ip / size ≡ b / size → a ≡ b
one_number size ip a b none_a none_b in_a in_b =
    sym (div-add-mod a size) ∙ ap (λ n. size * (a / size) + n) none_a ∙ ap (λ n. size * n + 0) (sym in_a ∙ in_b) ∙ ap (λ n. size * (b / size) + n) (sym none_b) ∙ div-add-mod b size

same_nets : (a b : Net) → HasNoHostBits a → HasNoHostBits b → (to : Ip) → Holds a to → Holds b to → len_of a ≡ len_of b → AreSame a b
same_nets a b none_a none_b to in_a in_b lens =
    let families : family_of (address_of a) ≡ family_of (address_of b) = sym in_a.family ∙ in_b.family in
    let wide = one_width (address_of a) (address_of b) families in
    let behind : host_bits b ≡ host_bits a = omega (arith, wide, lens) in
    record {
      ip = one_ip (address_of a) (address_of b) families
          (one_number (2 ^ host_bits a) (ip_value to) (ip_value (address_of a)) (ip_value (address_of b)) none_a
          (subst (λ (n : ℕ). ip_value (address_of b) % 2 ^ n ≡ 0) behind none_b) in_a.prefix
          (subst (λ (n : ℕ). ip_value to / 2 ^ n ≡ ip_value (address_of b) / 2 ^ n) behind in_b.prefix));
      len = lens;
    }

module _ (conf : Configuration) (now : State) (d : Dp) (setting : IsSetting conf now d) (v : Vlan) (v_in : Contains conf.vlans v) where
  abbrev group : DpId
  group = group_of conf d.id

  abbrev pub set : List ℕ
  set = routing_set conf v.vid

  -- ---- where an item comes from

  pub record InSet (w : Vlan) : Type 0 where
    pub among : Contains set w.vid
    pub is_vlan : vlan_with conf.vlans w.vid ≡ Some w

  -- the VIPs that packets of v are routed by
  abbrev pub used : Vlan → List Net
  used w = vips_from v.vid w

  pub record IsNear (w : Vlan) (n : NeighRec) (mac : Mac) : Type 0 where
    pub within : Contains now.neighbours n
    pub of_group : n.group.0 ≡ group.0
    pub vid : n.vid ≡ w.vid
    pub vip : Net
    pub vip_in : Contains (used w) vip
    pub held : Holds vip n.ip
    pub is_mac : n.mac ≡ Some mac

  pub data From (w : Vlan) : RouteItem → Type 0 where
    of_vip : (vip : Net) → Contains (used w) vip → From w (vip_item vip)
    of_neighbour : (n : NeighRec) (mac : Mac) → IsNear w n mac → IsSixBytes mac.0 → From w (hop_item w n.ip (width_of n.ip) mac)
    of_network : (vip : Net) → Contains (used w) vip → From w (network_item vip)
    of_route : (route : Route) (mac : Mac) → Contains w.routes route → mac_of_neighbour now.neighbours group w.vid route.gw ≡ Some mac → IsSixBytes mac.0 → From w (hop_item w (address_of route.dst) (len_of route.dst) mac)

  pub record Origin (item : RouteItem) : Type 0 where
    pub vlan : Vlan
    pub in_set : InSet vlan
    pub way : From vlan item

  -- ---- VLANs of the routing set

  vlan_is : (w : Vlan) → InSet w → IsVlan w
  vlan_is w s = of_all IsVlan conf.vlans setting.valid.vlans.each w (found (λ y. y.vid == w.vid) conf.vlans w s.is_vlan).within

  pub own : (w : Vlan) (vip : Net) → Contains (used w) vip → Contains w.vips vip
  own w vip c = used_is_own v.vid w vip c

  vip_is : (w : Vlan) → InSet w → (vip : Net) → Contains (used w) vip → IsVip vip
  vip_is w s vip c = of_all IsVip w.vips (vlan_is w s).vips vip (own w vip c)

  pub short : (w : Vlan) → InSet w → (vip : Net) → Contains (used w) vip → len_of vip < width_of (address_of vip)
  short w s vip c = vip_short vip (vip_is w s vip c)

  route_is : (w : Vlan) → InSet w → (route : Route) → Contains w.routes route → IsRoute route
  route_is w s route c = of_all IsRoute w.routes (vlan_is w s).routes route c

  pub vips_are : (w : Vlan) → InSet w → vips_of conf w.vid ≡ w.vips
  vips_are w s = ap (λ (o : Option Vlan). option_map_or (λ (x : Vlan). x.vips) o []) s.is_vlan

  routes_are : (w : Vlan) → InSet w → routes_of conf w.vid ≡ w.routes
  routes_are w s = ap (λ (o : Option Vlan). option_map_or (λ (x : Vlan). x.routes) o []) s.is_vlan

  same_vlan : (w x : Vlan) → InSet w → InSet x → w.vid ≡ x.vid → w ≡ x
  same_vlan w x s r same = same_Some w x (sym s.is_vlan ∙ ap (vlan_with conf.vlans) same ∙ r.is_vlan)

  -- each of them has this routing set
  same_set : (w : Vlan) → InSet w → routing_set conf w.vid ≡ set
  same_set w s = by (router_with conf.routers v.vid) refl s.among
    where
      other : (r : Router) → Contains conf.routers r → Contains r.vlans w.vid → (o : Option Router) → router_with conf.routers w.vid ≡ o → option_map_or (λ (r : Router). r.vlans) o (w.vid ∷ []) ≡ r.vlans
      other r c among None none =
          absurd (true≢false (sym (any_true (λ n. n == w.vid) r.vlans w.vid among (eq-eqb w.vid w.vid refl)) ∙ of_all (λ (q : Router). is_among q.vlans w.vid ≡ false) conf.routers (none_found (λ (q : Router). is_among q.vlans w.vid) conf.routers none) r c))
      other r c among (Some q) is =
          let f = found (λ (x : Router). is_among x.vlans w.vid) conf.routers q is in
          let in_q = some_passes (λ n. n == w.vid) q.vlans f.passes in
          let there : Contains q.vlans w.vid = subst (Contains q.vlans) (eqb-true in_q.0 w.vid (in_q.1).passes) (in_q.1).within in
          let one : q ≡ r = apart_or_one (λ (a b : Router). AllByRecursion (λ vid. is_among b.vlans vid ≡ false) a.vlans) conf.routers setting.valid.routing.apart q r f.within c
          (λ a. true≢false (sym (any_true (λ n. n == w.vid) r.vlans w.vid among (eq-eqb w.vid w.vid refl)) ∙ of_all (λ vid. is_among r.vlans vid ≡ false) q.vlans a w.vid there))
          (λ a. true≢false (sym f.passes ∙ of_all (λ vid. is_among q.vlans vid ≡ false) r.vlans a w.vid among)) in
          ap (λ (x : Router). x.vlans) one

      by : (o : Option Router) → router_with conf.routers v.vid ≡ o → Contains (option_map_or (λ (r : Router). r.vlans) o (v.vid ∷ [])) w.vid
          → routing_set conf w.vid ≡ option_map_or (λ (r : Router). r.vlans) o (v.vid ∷ [])
      by None is (zero, lt, same) = ap (routing_set conf) (sym same) ∙ ap (λ (o : Option Router). option_map_or (λ (r : Router). r.vlans) o (v.vid ∷ [])) is
      by None is (suc k, lt, same) = absurd (omega (arith, lt))
      by (Some r) is among = other r (found (λ (x : Router). is_among x.vlans v.vid) conf.routers r is).within among (router_with conf.routers w.vid) refl

  -- ---- one address

  -- of two VLANs one at most has link-local VIPs among these
  not_both : (w x : Vlan) → (w.vid ≡ x.vid → ⊥) → (a b : Net) → Contains (used w) a → Contains (used x) b → (is_link_local a && is_link_local b) ≡ false
  not_both w x other a b ca cb = by (w.vid == v.vid) refl
    where
      by : (t : Bool) → (w.vid == v.vid) ≡ t → (is_link_local a && is_link_local b) ≡ false
      by true here = and_right (is_link_local a) (is_link_local b) (of_all IsWide (used x) (wide_used v.vid x (λ there. other (eqb-true w.vid v.vid here ∙ sym there))) b cb)
      by false apart = and_left (is_link_local a) (is_link_local b) (of_all IsWide (used w) (wide_used v.vid w (eqb-false w.vid v.vid apart)) a ca)

  -- VIPs whose networks hold one address are one
  pub one_vip : (w x : Vlan) → InSet w → InSet x → (a b : Net) → Contains (used w) a → Contains (used x) b → (to : Ip) → Holds a to → Holds b to → ◌≡◌ {A = ℕ × Net} (w.vid, a) (x.vid, b)
  one_vip w x s r a b ca cb to in_a in_b = by (w.vid == x.vid) refl
    where
      by : (t : Bool) → (w.vid == x.vid) ≡ t → ◌≡◌ {A = ℕ × Net} (w.vid, a) (x.vid, b)
      by true same =
          let vids : w.vid ≡ x.vid = eqb-true w.vid x.vid same in
          let vlans = same_vlan w x s r vids in
          let there : Contains w.vips b = subst (λ (y : Vlan). Contains y.vips b) (sym vlans) (own x b cb) in
          let one : a ≡ b = apart_or_one AreApart w.vips (of_all (λ (u : Vlan). EachBefore AreApart u.vips) conf.vlans setting.valid.routing.own_vips w (found (λ y. y.vid == w.vid) conf.vlans w s.is_vlan).within) a b (own w a ca) there
          (λ apart. apart to in_a in_b) (λ apart. apart to in_b in_a) in
          λ i. (vids i, one i)
      by false apart =
          let other : w.vid ≡ x.vid → ⊥ = eqb-false w.vid x.vid apart in
          one_of (vips_of conf) AreApartOrLocal set (of_all (λ (u : Vlan). EachBefore AreApartOrLocal (vips_in conf (routing_set conf u.vid))) conf.vlans setting.valid.routing.vips v v_in) w.vid x.vid a b
          s.among (subst (λ l. Contains l a) (sym (vips_are w s)) (own w a ca)) r.among (subst (λ l. Contains l b) (sym (vips_are x r)) (own x b cb))
          (λ here. here (not_both w x other a b ca cb) to in_a in_b) (λ here. here (not_both x w (λ e. other (sym e)) b a cb ca) to in_b in_a)

  -- no route leads into a VIP's network
  pub not_inside : {P : Type 0} (w x : Vlan) → InSet w → InSet x → (route : Route) (vip : Net) → Contains w.routes route → Contains (used x) vip → len_of vip ≤ len_of route.dst → Holds vip (address_of route.dst) → P
  not_inside w x s r route vip cr cv longer inside =
      let w_in = (found (λ y. y.vid == w.vid) conf.vlans w s.is_vlan).within in
      let outside = of_all (λ (q : Route). AllByRecursion (λ vip. LiesIn q.dst vip → ⊥) (vips_in conf (routing_set conf w.vid))) w.routes (of_all (RoutesAreValid conf) conf.vlans setting.valid.routing.each w w_in).outside route cr in
      let c : Contains (vips_in conf (routing_set conf w.vid)) vip =
      subst (λ ns. Contains (vips_in conf ns) vip) (sym (same_set w s)) (in_flat (vips_of conf) set x.vid vip r.among (subst (λ l. Contains l vip) (sym (vips_are x r)) (own x vip cv))) in
      absurd (of_all (λ vip. LiesIn route.dst vip → ⊥) (vips_in conf (routing_set conf w.vid)) outside vip c (record { longer = longer; inside = inside }))

  is_neighbour : (n : NeighRec) → Contains now.neighbours n → IsNeighbour conf now n
  is_neighbour n c = of_all (IsNeighbour conf now) now.neighbours setting.state.neighbours n c

  -- no neighbour has the address of a VIP
  no_vip : {P : Type 0} (w x : Vlan) → InSet w → InSet x → (n : NeighRec) (mac : Mac) → IsNear w n mac → (vip : Net) → Contains (used x) vip → address_of vip ≡ n.ip → P
  no_vip w x s r n mac near vip c same =
      let one = one_vip w x s r near.vip vip near.vip_in c n.ip near.held (subst (Holds vip) same (holds_own vip)) in
      let vids : w.vid ≡ x.vid = ap (λ (t : ℕ × Net). t.0) one in
      let here : vips_of conf n.vid ≡ x.vips = ap (vips_of conf) (near.vid ∙ vids) ∙ vips_are x r in
      let parts = and_parts (list_any (λ vip. is_held vip n.ip) (vips_of conf n.vid)) (not (is_vip (vips_of conf n.vid) n.ip)) (is_neighbour n near.within).address in
      let there : is_vip (vips_of conf n.vid) n.ip ≡ true = rw here (any_true (λ (y : Net). is_same_ip (address_of y) n.ip) x.vips vip (own x vip c) (is_that_ip (address_of vip) n.ip same)) in
      absurd (true≢false (sym parts.1 ∙ ap not there))

  -- a route with the prefix of an item alone would lead into the network that the item lies in
  into : {P : Type 0} (w x : Vlan) → InSet w → InSet x → (route : Route) (vip : Net) → Contains w.routes route → Contains (used x) vip → (to : Ip) → Holds vip to
      → InPrefix to (address_of route.dst) (len_of route.dst) → len_of route.dst ≡ width_of to → P
  into w x s r route vip cr cv to holds in_route whole =
      let dst = whole_in to (address_of route.dst) (len_of route.dst) in_route (whole ∙ one_width to (address_of route.dst) in_route.family) in
      let less = short x r vip cv in
      let wide = one_width to (address_of vip) holds.family in
      not_inside w x s r route vip cr cv (omega (arith, less, whole, wide)) (subst (Holds vip) dst holds)

  into_vip : {P : Type 0} (w x : Vlan) → InSet w → InSet x → (route : Route) (vip : Net) → Contains w.routes route → Contains (used x) vip → (to : Ip) → to ≡ address_of vip
      → InPrefix to (address_of route.dst) (len_of route.dst) → len_of route.dst ≡ width_of (address_of vip) → P
  into_vip w x s r route vip cr cv to same in_route whole =
      into w x s r route vip cr cv to (subst (Holds vip) (sym same) (holds_own vip)) in_route (whole ∙ sym (ap width_of same))

  into_near : {P : Type 0} (w x : Vlan) → InSet w → InSet x → (route : Route) (n : NeighRec) (mac : Mac) → IsNear x n mac → Contains w.routes route → (to : Ip) → to ≡ n.ip
      → InPrefix to (address_of route.dst) (len_of route.dst) → len_of route.dst ≡ width_of n.ip → P
  into_near w x s r route n mac near cr to same in_route whole =
      into w x s r route near.vip cr near.vip_in to (subst (Holds near.vip) (sym same) near.held) in_route (whole ∙ sym (ap width_of same))

  into_network : {P : Type 0} (w x : Vlan) → InSet w → InSet x → (route : Route) (vip : Net) → Contains w.routes route → Contains (used x) vip → (to : Ip)
      → InPrefix to (address_of route.dst) (len_of route.dst) → Holds vip to → len_of route.dst ≡ len_of vip → P
  into_network w x s r route vip cr cv to in_route holds lens =
      let wide = one_width (address_of route.dst) (address_of vip) (sym in_route.family ∙ holds.family) in
      let behind : host_bits route.dst ≡ host_bits vip = omega (arith, wide, lens) in
      not_inside w x s r route vip cr cv (omega (arith, lens)) (record {
        family = sym in_route.family ∙ holds.family;
        prefix = sym (subst (λ (n : ℕ). ip_value to / 2 ^ n ≡ ip_value (address_of route.dst) / 2 ^ n) behind in_route.bits) ∙ holds.prefix;
      })

  -- a network has a shorter prefix than an address of its family
  not_alone : {P : Type 0} (w : Vlan) → InSet w → (vip : Net) → Contains (used w) vip → (at : Ip) → family_of at ≡ family_of (address_of vip) → len_of vip ≡ width_of at → P
  not_alone w s vip c at same alone = let less = short w s vip c in let wide = one_width at (address_of vip) same in absurd (omega (arith, less, wide, alone))

  -- two ways to one neighbour are one
  one_near : (w x : Vlan) → InSet w → InSet x → (n m : NeighRec) (mac far : Mac) → IsNear w n mac → IsNear x m far → n.ip ≡ m.ip → Hop w.vid w.mac mac ≡ Hop x.vid x.mac far
  one_near w x s r n m mac far near by same =
      let pair = one_vip w x s r near.vip by.vip near.vip_in by.vip_in n.ip near.held (subst (Holds by.vip) (sym same) by.held) in
      let vids : w.vid ≡ x.vid = ap (λ (t : ℕ × Net). t.0) pair in
      let one : n ≡ m = apart_or_one (λ a b. IsSameNeighbour a b → ⊥) now.neighbours setting.state.neighbour_keys n m near.within by.within
      (λ apart. apart (record { groups = near.of_group ∙ sym by.of_group; vlans = near.vid ∙ vids ∙ sym by.vid; ips = same }))
      (λ apart. apart (record { groups = by.of_group ∙ sym near.of_group; vlans = by.vid ∙ sym vids ∙ sym near.vid; ips = sym same })) in
      let macs = same_Some mac far (sym near.is_mac ∙ ap (λ (y : NeighRec). y.mac) one ∙ by.is_mac) in
      ap (λ (y : Vlan). Hop y.vid y.mac mac) (same_vlan w x s r vids) ∙ ap (Hop x.vid x.mac) macs

  one_route : (w x : Vlan) → InSet w → InSet x → (route other : Route) (mac far : Mac) → Contains w.routes route → Contains x.routes other → mac_of_neighbour now.neighbours group w.vid route.gw ≡ Some mac → mac_of_neighbour now.neighbours group x.vid other.gw ≡ Some far
      → AreSame route.dst other.dst → AreSame other.dst route.dst → Hop w.vid w.mac mac ≡ Hop x.vid x.mac far
  one_route w x s r route other mac far cr co is_mac is_far same back =
      let pair : ◌≡◌ {A = ℕ × Route} (w.vid, route) (x.vid, other) = one_of (routes_of conf) (λ a b. AreSame a.dst b.dst → ⊥) set (of_all (λ (u : Vlan). EachBefore (λ a b. AreSame a.dst b.dst → ⊥) (routes_in conf (routing_set conf u.vid))) conf.vlans setting.valid.routing.routes v v_in) w.vid x.vid route other
      s.among (subst (λ l. Contains l route) (sym (routes_are w s)) cr) r.among (subst (λ l. Contains l other) (sym (routes_are x r)) co) (λ apart. apart same) (λ apart. apart back) in
      let vids : w.vid ≡ x.vid = ap (λ (t : ℕ × Route). t.0) pair in
      let macs = same_Some mac far (sym is_mac ∙ ap (λ (t : ℕ × Route). mac_of_neighbour now.neighbours group t.0 t.1.gw) pair ∙ is_far) in
      ap (λ (y : Vlan). Hop y.vid y.mac mac) (same_vlan w x s r vids) ∙ ap (Hop x.vid x.mac) macs

  -- ---- items with one prefix lead to the same
  same_way : (w x : Vlan) → InSet w → InSet x → (a b : RouteItem) → From w a → From x b → (to : Ip) → InPrefix to a.ip a.len → InPrefix to b.ip b.len → a.len ≡ b.len → a.to ≡ b.to
  same_way w x s r _ _ (of_vip vip c) (of_vip other e) to in_a in_b lens = refl
  same_way w x s r _ _ (of_vip vip c) (of_neighbour n mac near six) to in_a in_b lens = no_vip x w r s n mac near vip c (sym (whole_in to (address_of vip) _ in_a refl) ∙ whole_in to n.ip _ in_b refl)
  same_way w x s r _ _ (of_vip vip c) (of_network other e) to in_a in_b lens = not_alone x r other e (address_of vip) (sym in_a.family ∙ in_b.family) (sym lens)
  same_way w x s r _ _ (of_vip vip c) (of_route route mac e is six) to in_a in_b lens = into_vip x w r s route vip e c to (whole_in to (address_of vip) _ in_a refl) in_b (sym lens)
  same_way w x s r _ _ (of_neighbour n mac near six) (of_vip vip c) to in_a in_b lens = no_vip w x s r n mac near vip c (sym (whole_in to (address_of vip) _ in_b refl) ∙ whole_in to n.ip _ in_a refl)
  same_way w x s r _ _ (of_neighbour n mac near six) (of_neighbour m far by fit) to in_a in_b lens = one_near w x s r n m mac far near by (sym (whole_in to n.ip _ in_a refl) ∙ whole_in to m.ip _ in_b refl)
  same_way w x s r _ _ (of_neighbour n mac near six) (of_network other e) to in_a in_b lens = not_alone x r other e n.ip (sym in_a.family ∙ in_b.family) (sym lens)
  same_way w x s r _ _ (of_neighbour n mac near six) (of_route route far e is fit) to in_a in_b lens = into_near x w r s route n mac near e to (whole_in to n.ip _ in_a refl) in_b (sym lens)
  same_way w x s r _ _ (of_network other e) (of_vip vip c) to in_a in_b lens = not_alone w s other e (address_of vip) (sym in_b.family ∙ in_a.family) lens
  same_way w x s r _ _ (of_network other e) (of_neighbour n mac near six) to in_a in_b lens = not_alone w s other e n.ip (sym in_b.family ∙ in_a.family) lens
  same_way w x s r _ _ (of_network vip c) (of_network other e) to in_a in_b lens = refl
  same_way w x s r _ _ (of_network vip c) (of_route route mac e is six) to in_a in_b lens = into_network x w r s route vip e c to in_b (in_net vip to in_a) (sym lens)
  same_way w x s r _ _ (of_route route mac e is six) (of_vip vip c) to in_a in_b lens = into_vip w x s r route vip e c to (whole_in to (address_of vip) _ in_b refl) in_a lens
  same_way w x s r _ _ (of_route route far e is fit) (of_neighbour n mac near six) to in_a in_b lens = into_near w x s r route n mac near e to (whole_in to n.ip _ in_b refl) in_a lens
  same_way w x s r _ _ (of_route route mac e is six) (of_network vip c) to in_a in_b lens = into_network w x s r route vip e c to in_a (in_net vip to in_b) lens
  same_way w x s r _ _ (of_route route mac c is six) (of_route other far e same fit) to in_a in_b lens =
      let none_a = (route_is w s route c).network in
      let none_b = (route_is x r other e).network in
      let in_route = in_net route.dst to in_a in
      let in_other = in_net other.dst to in_b in
      one_route w x s r route other mac far c e is same (same_nets route.dst other.dst none_a none_b to in_route in_other lens) (same_nets other.dst route.dst none_b none_a to in_other in_route (sym lens))

  pub same_to : (a b : RouteItem) → Origin a → Origin b → (to : Ip) → item_holds to a ≡ true → item_holds to b ≡ true → a.len ≡ b.len → a.to ≡ b.to
  same_to a b o q to in_a in_b lens = same_way o.vlan q.vlan o.in_set q.in_set a b o.way q.way to (in_item to a in_a) (in_item to b in_b) lens

  -- ---- the numbers of an item
  fits : (w : Vlan) → InSet w → (item : RouteItem) → From w item → IsAddress item.ip
  fits w s _ (of_vip vip c) = (vip_is w s vip c).address
  fits w s _ (of_neighbour n mac near six) =
      let less = short w s near.vip near.vip_in in
      held_fits near.vip n.ip (omega (arith, less)) (vip_is w s near.vip near.vip_in).address near.held
  fits w s _ (of_network vip c) = (vip_is w s vip c).address
  fits w s _ (of_route route mac c is six) = (route_is w s route c).address

  pub item_fits : (item : RouteItem) → Origin item → IsAddress item.ip
  item_fits item o = fits o.vlan o.in_set item o.way

  -- what leads to a network has a prefix of some length
  pub no_default : {P : Type 0} (w : Vlan) → InSet w → (vip : Net) → Contains (used w) vip → len_of vip ≡ 0 → P
  no_default w s vip c none = let least = (vip_is w s vip c).least in absurd (omega (arith, least, none))

  -- ---- all items have an origin
  all_some : {A B : Type 0} (P : B → Type 0) (f : A → Option B) (xs : List A) → ((x : A) (y : B) → Contains xs x → f x ≡ Some y → P y) → AllByRecursion P (filter_map f xs)
  all_some P f [] h = tt
  all_some {B = B} P f (x ∷ xs) h = one (f x) refl (all_some P f xs (λ y z c is. h y z (tail_of x xs y c) is))
    where
      one : (o : Option B) → f x ≡ o → AllByRecursion P (filter_map f xs) → AllByRecursion P (cons_option o (filter_map f xs))
      one None is more = more
      one (Some y) is more = (h x y (head_of x xs) is, more)

  six_of : (n : NeighRec) (mac : Mac) → Contains now.neighbours n → n.mac ≡ Some mac → IsSixBytes mac.0
  six_of n mac c is = subst (λ (o : Option Mac). IfSome o (λ m. IsSixBytes m.0)) is (of_all (λ (x : NeighRec). IfSome x.mac (λ m. IsSixBytes m.0)) now.neighbours setting.addresses.neighbours n c)

  by_neighbour : (w : Vlan) → InSet w → (n : NeighRec) (item : RouteItem) → Contains now.neighbours n → neighbour_item group w (used w) n ≡ Some item → Origin item
  by_neighbour w s n item c is = by (n.group.0 == group.0 && n.vid == w.vid && list_any (λ vip. is_held vip n.ip) (used w)) refl is
    where
      made : n.group.0 == group.0 && n.vid == w.vid && list_any (λ vip. is_held vip n.ip) (used w) ≡ true → (o : Option Mac) → n.mac ≡ o → option_map (hop_item w n.ip (width_of n.ip)) o ≡ Some item → Origin item
      made here None none e = absurd (none-some item e)
      made here (Some mac) is_mac e =
          let x = and_parts (n.group.0 == group.0 && n.vid == w.vid) (list_any (λ vip. is_held vip n.ip) (used w)) here in
          let y = and_parts (n.group.0 == group.0) (n.vid == w.vid) x.0 in
          let f = some_passes (λ vip. is_held vip n.ip) (used w) x.1 in
          let near : IsNear w n mac = record {
            within = c;
            of_group = eqb-true n.group.0 group.0 y.0;
            vid = eqb-true n.vid w.vid y.1;
            vip = f.0;
            vip_in = (f.1).within;
            held = held_by f.0 n.ip (f.1).passes;
            is_mac = is_mac;
          } in
          subst Origin (same_Some (hop_item w n.ip (width_of n.ip) mac) item e) (record { vlan = w; in_set = s; way = of_neighbour n mac near (six_of n mac c is_mac) })

      by : (b : Bool) → n.group.0 == group.0 && n.vid == w.vid && list_any (λ vip. is_held vip n.ip) (used w) ≡ b → option_map (hop_item w n.ip (width_of n.ip)) (if b then n.mac else None) ≡ Some item → Origin item
      by true here e = made here n.mac refl e
      by false here e = absurd (none-some item e)

  by_route : (w : Vlan) → InSet w → (route : Route) (item : RouteItem) → Contains w.routes route → route_item now.neighbours group w route ≡ Some item → Origin item
  by_route w s route item c is = by (mac_of_neighbour now.neighbours group w.vid route.gw) refl is
    where
      test : NeighRec → Bool
      test n = n.group.0 == group.0 && n.vid == w.vid && is_same_ip n.ip route.gw

      six : (mac : Mac) → (o : Option NeighRec) → find test now.neighbours ≡ o → option_and_then (λ (n : NeighRec). n.mac) o ≡ Some mac → IsSixBytes mac.0
      six mac None none e = absurd (none-some mac e)
      six mac (Some n) one e = six_of n mac (found test now.neighbours n one).within e

      by : (o : Option Mac) → mac_of_neighbour now.neighbours group w.vid route.gw ≡ o → option_map (hop_item w (address_of route.dst) (len_of route.dst)) o ≡ Some item → Origin item
      by None none e = absurd (none-some item e)
      by (Some mac) is_mac e = subst Origin (same_Some (hop_item w (address_of route.dst) (len_of route.dst) mac) item e) (record { vlan = w; in_set = s; way = of_route route mac c is_mac (six mac (find test now.neighbours) refl is_mac) })

  of_vlan : (w : Vlan) → InSet w → AllByRecursion Origin (items_for now.neighbours group v.vid w)
  of_vlan w s =
      all_joined Origin _ (filter_map (route_item now.neighbours group w) w.routes)
      (all_joined Origin _ (map network_item (used w))
      (all_joined Origin (map vip_item (used w)) (filter_map (neighbour_item group w (used w)) now.neighbours)
      (all_mapped Origin vip_item (used w) (all_by (λ vip. Origin (vip_item vip)) (used w) (λ vip c. record { vlan = w; in_set = s; way = of_vip vip c })))
      (all_some Origin (neighbour_item group w (used w)) now.neighbours (by_neighbour w s)))
      (all_mapped Origin network_item (used w) (all_by (λ vip. Origin (network_item vip)) (used w) (λ vip c. record { vlan = w; in_set = s; way = of_network vip c }))))
      (all_some Origin (route_item now.neighbours group w) w.routes (by_route w s))

  pub origins : AllByRecursion Origin (route_list conf now.neighbours group v.vid)
  unfolding route_list
  origins =
      all_flat Origin (λ n. option_map_or (items_for now.neighbours group v.vid) (vlan_with conf.vlans n) []) set
      (all_by (λ n. AllByRecursion Origin (option_map_or (items_for now.neighbours group v.vid) (vlan_with conf.vlans n) [])) set (λ n c. of n c (vlan_with conf.vlans n) refl))
    where
      of : (n : ℕ) → Contains set n → (o : Option Vlan) → vlan_with conf.vlans n ≡ o → AllByRecursion Origin (option_map_or (items_for now.neighbours group v.vid) o [])
      of n c None is = tt
      of n c (Some w) is =
          let vid : w.vid ≡ n = eqb-true w.vid n (found (λ y. y.vid == n) conf.vlans w is).passes in
          of_vlan w (record { among = subst (Contains set) (sym vid) c; is_vlan = ap (vlan_with conf.vlans) vid ∙ is })
