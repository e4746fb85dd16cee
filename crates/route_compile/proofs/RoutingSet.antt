-- No two items of a route list have one prefix: over the VLANs of a routing set.
use Rattle.std.proofs.Common.{◌≡◌, ℕ, zero, suc, ◌+◌, ◌<◌, ◌==◌, ◌&&◌, not, Bool, true, false, cond, Option, Some, None, List, [], ◌∷◌, ◌++◌, filter, find, refl, sym, ap, ◌∙◌, arith, subst, true≢false, eq-eqb, inl, inr}
use Rattle.std.specs.Prelude.{Contains, ◌⊎◌}
use Rattle.std.specs.List.{AllByRecursion, list_any, flat_map}
use Rattle.std.specs.Option.{option_map_or}
use Rattle.std.proofs.lemmas.Bool.{eqb-true, eqb-false, cases_Bool, and_left, and_right}
use Rattle.std.proofs.lemmas.Bool.Decides.{nat_tests}
use Rattle.std.proofs.lemmas.List.Elements.{Contains-append_left, Contains-append_right}
use Rattle.std.proofs.lemmas.List.Folds.{Any-from_list_any, list_any-from_Any}
use Rattle.std.proofs.lemmas.Option.{none-some, same_Some}
use Rattle.net_base.specs.declared.numbers.DpId.{DpId}
use Rattle.conf_types.specs.declared.address.Net.{Net}
use Rattle.conf_types.specs.declared.state.NeighRec.{NeighRec}
use Rattle.conf_types.specs.declared.vlan.Route.{Route}
use Rattle.conf_types.specs.declared.vlan.Router.{Router}
use Rattle.conf_types.specs.declared.vlan.Vlan.{Vlan}
use Rattle.conf_types.specs.Configuration.{Configuration, vlan_with}
use Rattle.conf_types.specs.Lists.{EachBefore, AreDistinct, is_among}
use Rattle.conf_types.specs.Networks.{AreApart, AreApartOrLocal, LiesIn, AreSame, is_link_local, is_neighbour_address}
use Rattle.conf_types.specs.Routing.{router_with, routing_set, vips_of, vips_in, vips_from, routes_of, routes_in}
use Rattle.conf_types.specs.State.{State, IsNeighbour, IsSameNeighbour, IsValidState}
use Rattle.conf_types.specs.Valid.{IsValid, IsVlan, RoutesAreValid}
use Rattle.conf_types.proofs.Found.{all_found}
use Rattle.packet_way.specs.declared.routes.RouteItem.{RouteItem}
use Rattle.packet_way.specs.Routes.{items_for, route_list}
use Rattle.plan_base.proofs.Each.{all_from, all_append, all_filter, all_passing, all_flat_map, all_contains, all_by, before_append, before_of_append, before_filter}
use Rattle.route_compile.proofs.Items.{IsOf, Differ, differ_across, items_are_of, items_differ}

-- ---- what is found

pub passes : {A : Type 0} (p : A → Bool) (xs : List A) (x : A) → find p xs ≡ Some x → p x ≡ true
passes p [] x e = absurd (none-some x e)
passes {A = A} p (y ∷ ys) x e = one (p y) refl e (λ f. passes p ys x f)
  where
    one : (b : Bool) → p y ≡ b → cond b (Some y) (find p ys) ≡ Some x → (find p ys ≡ Some x → p x ≡ true) → p x ≡ true
    one true is same more = subst (λ (z : A). p z ≡ true) (same_Some y x same) is
    one false is same more = more same

pub within : {A : Type 0} (p : A → Bool) (xs : List A) (x : A) → find p xs ≡ Some x → Contains xs x
within p xs x e = all_found (λ y. Contains xs y) p xs x (all_by (λ y. Contains xs y) xs (λ y here. here)) e

unequal : (a b : ℕ) → a < b → (a == b) ≡ false
unequal a b lt = grind (arith, nat_tests)

-- of elements whose numbers rise each is the one that is found by its number
pub found_by : {A : Type 0} (key : A → ℕ) (xs : List A) → EachBefore (λ x y. key x < key y) xs → (x : A) → Contains xs x → find (λ y. key y == key x) xs ≡ Some x
found_by key [] rises x (k, lt, is) = absurd (omega arith)
found_by {A = A} key (y ∷ ys) rises x (zero, lt, is) =
    ap (λ b. cond b (Some y) (find (λ z. key z == key x) ys)) (eq-eqb (key y) (key x) (ap key is)) ∙ ap (λ (z : A). Some z) is
found_by {A = A} key (y ∷ ys) rises x (suc k, lt, is) =
    let here : Contains ys x = (k, omega arith, is) in
    ap (λ b. cond b (Some y) (find (λ z. key z == key x) ys)) (unequal (key y) (key x) (all_contains (λ (z : A). key y < key z) ys rises.0 x here)) ∙ found_by key ys rises.1 x here

-- ---- one routing set

-- the router of a VLAN is that of each VLAN that it names
same_router : (routers : List Router) → EachBefore (λ r s. AllByRecursion (λ vid. is_among s.vlans vid ≡ false) r.vlans) routers
    → (v u : ℕ) (router : Router) → router_with routers v ≡ Some router → Contains router.vlans u → router_with routers u ≡ Some router
same_router [] apart v u router e here = absurd (none-some router e)
same_router (r ∷ rs) apart v u router e here = one (is_among r.vlans v) e (λ f. same_router rs apart.1 v u router f here)
  where
    among : (s : Router) → Contains s.vlans u → is_among s.vlans u ≡ true
    among s (k, lt, is) = list_any-from_Any (λ x. x == u) s.vlans (k, u, lt, is, eq-eqb u u refl)

    no_other : Contains rs router → is_among r.vlans u ≡ false
    no_other in_rs = elim (cases_Bool (is_among r.vlans u)) [
      | inl named ↦
          let found = Any-from_list_any (λ x. x == u) r.vlans named in
          let apart_here = all_contains (λ s. AllByRecursion (λ vid. is_among s.vlans vid ≡ false) r.vlans) rs apart.0 router in_rs in
          let no : is_among router.vlans found.1 ≡ false = all_contains (λ vid. is_among router.vlans vid ≡ false) r.vlans apart_here found.1 (found.0, found.2, found.3) in
          absurd (true≢false (sym (among router here) ∙ ap (is_among router.vlans) (sym (eqb-true found.1 u found.4)) ∙ no))
      | inr other ↦ other
    ]

    one : (b : Bool) → cond b (Some r) (router_with rs v) ≡ Some router → (router_with rs v ≡ Some router → router_with rs u ≡ Some router) → cond (is_among r.vlans u) (Some r) (router_with rs u) ≡ Some router
    one true same more =
        ap (λ b. cond b (Some r) (router_with rs u)) (ap (λ (s : Router). is_among s.vlans u) (same_Some r router same) ∙ among router here) ∙ same
    one false same more =
        ap (λ b. cond b (Some r) (router_with rs u)) (no_other (within (λ s. is_among s.vlans v) rs router same)) ∙ more same

only : (v u : ℕ) → Contains (v ∷ []) u → v ≡ u
only v u (zero, lt, is) = is
only v u (suc k, lt, is) = absurd (omega arith)

same_set : (conf : Configuration) → IsValid conf → (v u : ℕ) → Contains (routing_set conf v) u → routing_set conf u ≡ routing_set conf v
same_set conf valid v u here = one (router_with conf.routers v) refl here
  where
    one : (o : Option Router) → router_with conf.routers v ≡ o → Contains (option_map_or (λ r. r.vlans) o (v ∷ [])) u → routing_set conf u ≡ routing_set conf v
    one None is here = ap (routing_set conf) (sym (only v u here))
    one (Some router) is here =
        ap (λ o. option_map_or (λ (r : Router). r.vlans) o (u ∷ [])) (same_router conf.routers valid.routing.apart v u router is here)
        ∙ sym (ap (λ o. option_map_or (λ (r : Router). r.vlans) o (v ∷ [])) is)

-- a VLAN is in its own
in_own_set : (conf : Configuration) (v : ℕ) → Contains (routing_set conf v) v
in_own_set conf v = one (router_with conf.routers v) refl
  where
    one : (o : Option Router) → router_with conf.routers v ≡ o → Contains (option_map_or (λ r. r.vlans) o (v ∷ [])) v
    one None is = (zero, omega arith, refl)
    one (Some router) is =
        let found = Any-from_list_any (λ x. x == v) router.vlans (passes (λ r. is_among r.vlans v) conf.routers router is) in
        subst (Contains router.vlans) (eqb-true found.1 v found.4) (found.0, found.2, found.3)

-- no VLAN is in it twice
set_is_distinct : (conf : Configuration) → IsValid conf → (v : ℕ) → AreDistinct (routing_set conf v)
set_is_distinct conf valid v = one (router_with conf.routers v) refl
  where
    one : (o : Option Router) → router_with conf.routers v ≡ o → AreDistinct (option_map_or (λ r. r.vlans) o (v ∷ []))
    one None is = (tt, tt)
    one (Some router) is = all_contains (λ r. AreDistinct r.vlans) conf.routers valid.routing.once router (within (λ r. is_among r.vlans v) conf.routers router is)

in_flat : {A B : Type 0} (f : A → List B) (xs : List A) (x : A) (y : B) → Contains xs x → Contains (f x) y → Contains (flat_map f xs) y
in_flat f [] x y (k, lt, is) here = absurd (omega arith)
in_flat f (z ∷ xs) x y (zero, lt, is) here = Contains-append_left (f z) (flat_map f xs) y (subst (λ w. Contains (f w) y) (sym is) here)
in_flat f (z ∷ xs) x y (suc k, lt, is) here = Contains-append_right (f z) (flat_map f xs) y (in_flat f xs x y (k, omega arith, is) here)

-- ---- VIPs that packets of VLAN b are routed by

abbrev pub IsWide : Net → Type 0
IsWide vip = is_link_local vip ≡ false

-- those of VLAN u, if there is one
abbrev pub used_of : ℕ → Option Vlan → List Net
used_of b o = option_map_or (vips_from b) o []

-- the networks of a VLAN's VIPs are apart
pub own_vips_apart : (conf : Configuration) → IsValid conf → (v : Vlan) → Contains conf.vlans v → EachBefore AreApart v.vips
own_vips_apart conf valid v is_vlan = all_contains (λ (w : Vlan). EachBefore AreApart w.vips) conf.vlans valid.routing.own_vips v is_vlan

-- they are of the VLAN
pub used_is_own : (b : ℕ) (w : Vlan) (vip : Net) → Contains (vips_from b w) vip → Contains w.vips vip
used_is_own b w vip = one (w.vid == b)
  where
    one : (x : Bool) → Contains (cond x w.vips (filter (λ v. not (is_link_local v)) w.vips)) vip → Contains w.vips vip
    one true here = here
    one false here = all_contains (λ v. Contains w.vips v) (filter (λ v. not (is_link_local v)) w.vips) (all_filter (λ v. Contains w.vips v) (λ v. not (is_link_local v)) w.vips (all_by (λ v. Contains w.vips v) w.vips (λ v at. at))) vip here

-- and where it is another VLAN, none is link-local
pub wide_used : (b : ℕ) (w : Vlan) → (w.vid ≡ b → ⊥) → AllByRecursion IsWide (vips_from b w)
wide_used b w other = by (w.vid == b) refl
  where
    wide : (x : Bool) → not x ≡ true → x ≡ false
    wide true is = absurd (true≢false (sym is))
    wide false is = refl

    by : (x : Bool) → (w.vid == b) ≡ x → AllByRecursion IsWide (cond x w.vips (filter (λ v. not (is_link_local v)) w.vips))
    by true same = absurd (other (eqb-true w.vid b same))
    by false apart = all_passing IsWide (λ v. not (is_link_local v)) w.vips (all_by (λ v. not (is_link_local v) ≡ true → IsWide v) w.vips (λ v here is. wide (is_link_local v) is))

module _ (conf : Configuration) (valid : IsValid conf) (b : ℕ) where
  abbrev pub used : ℕ → List Net
  used u = used_of b (vlan_with conf.vlans u)

  abbrev pub all_used : List ℕ → List Net
  all_used vids = flat_map used vids

  used_in : (u : ℕ) (vip : Net) → Contains (used u) vip → Contains (vips_of conf u) vip
  used_in u vip = one (vlan_with conf.vlans u)
    where
      one : (o : Option Vlan) → Contains (used_of b o) vip → Contains (option_map_or (λ w. w.vips) o []) vip
      one None here = here
      one (Some w) here = used_is_own b w vip here

  pub all_used_in : (vids : List ℕ) → AllByRecursion (λ vip. Contains (vips_in conf vids) vip) (all_used vids)
  all_used_in vids =
      all_flat_map used (λ vip. Contains (vips_in conf vids) vip) vids
      (all_by (λ u. AllByRecursion (λ vip. Contains (vips_in conf vids) vip) (used u)) vids
      (λ u here. all_by (λ vip. Contains (vips_in conf vids) vip) (used u) (λ vip at. in_flat (vips_of conf) vids u vip here (used_in u vip at))))

  -- of another VLAN none is link-local
  used_is_wide : (u : ℕ) → (u ≡ b → ⊥) → AllByRecursion IsWide (used u)
  used_is_wide u other = one (vlan_with conf.vlans u) refl
    where
      one : (o : Option Vlan) → vlan_with conf.vlans u ≡ o → AllByRecursion IsWide (used_of b o)
      one None is = tt
      one (Some w) is = wide_used b w (λ same. other (sym (eqb-true w.vid u (passes (λ x. x.vid == u) conf.vlans w is)) ∙ same))

  own_used_apart : (u : ℕ) → EachBefore AreApart (used u)
  own_used_apart u = one (vlan_with conf.vlans u) refl
    where
      one : (o : Option Vlan) → vlan_with conf.vlans u ≡ o → EachBefore AreApart (used_of b o)
      one None is = tt
      one (Some w) is = by (w.vid == b)
        where
          own : EachBefore AreApart w.vips
          own = own_vips_apart conf valid w (within (λ x. x.vid == u) conf.vlans w is)

          by : (x : Bool) → EachBefore AreApart (cond x w.vips (filter (λ v. not (is_link_local v)) w.vips))
          by true = own
          by false = before_filter AreApart (λ v. not (is_link_local v)) w.vips own

  -- those of VLANs are apart
  pub used_apart : (vids : List ℕ) → AreDistinct vids → EachBefore AreApartOrLocal (vips_in conf vids) → EachBefore AreApart (all_used vids)
  used_apart [] distinct apart = tt
  used_apart (u ∷ more) distinct apart =
      let parts = before_of_append AreApartOrLocal (vips_of conf u) (vips_in conf more) apart in
      before_append AreApart (used u) (all_used more) (own_used_apart u) (used_apart more distinct.1 parts.1) (across parts.2 (u == b) refl)
    where
      two : AllByRecursion (λ x. AllByRecursion (AreApartOrLocal x) (vips_in conf more)) (vips_of conf u)
          → ((x : Net) → Contains (used u) x → (y : Net) → Contains (all_used more) y → (is_link_local x && is_link_local y) ≡ false) → AllByRecursion (λ x. AllByRecursion (AreApart x) (all_used more)) (used u)
      two all wide =
          all_by (λ x. AllByRecursion (AreApart x) (all_used more)) (used u) (λ x here.
          let of_x = all_contains (λ z. AllByRecursion (AreApartOrLocal z) (vips_in conf more)) (vips_of conf u) all x (used_in u x here) in
          all_by (AreApart x) (all_used more) (λ y there.
          all_contains (AreApartOrLocal x) (vips_in conf more) of_x y (all_contains (λ vip. Contains (vips_in conf more) vip) (all_used more) (all_used_in more) y there) (wide x here y there)))

      others_wide : u ≡ b → AllByRecursion IsWide (all_used more)
      others_wide same =
          all_flat_map used IsWide more
          (all_by (λ n. AllByRecursion IsWide (used n)) more (λ n here. used_is_wide n (λ is. all_contains (λ m. u ≡ m → ⊥) more distinct.0 n here (same ∙ sym is))))

      across : AllByRecursion (λ x. AllByRecursion (AreApartOrLocal x) (vips_in conf more)) (vips_of conf u) → (t : Bool) → (u == b) ≡ t → AllByRecursion (λ x. AllByRecursion (AreApart x) (all_used more)) (used u)
      across all true same = two all (λ x here y there. and_right (is_link_local x) (is_link_local y) (all_contains IsWide (all_used more) (others_wide (eqb-true u b same)) y there))
      across all false apart = two all (λ x here y there. and_left (is_link_local x) (is_link_local y) (all_contains IsWide (used u) (used_is_wide u (eqb-false u b apart)) x here))

-- ---- the items of each VLAN, and of all

abbrev NotSame : Route → Route → Type 0
NotSame r s = AreSame r.dst s.dst → ⊥

abbrev LieOutside : List Route → List Net → Type 0
LieOutside routes vips = (r : Route) → Contains routes r → (vip : Net) → Contains vips vip → LiesIn r.dst vip → ⊥

widen_left : (vips more : List Net) (routes others : List Route) (item : RouteItem) → IsOf vips routes item → IsOf (vips ++ more) (routes ++ others) item
widen_left vips more routes others item (inl is) = inl (record { vip = is.vip; here = Contains-append_left vips more is.vip is.here; longer = is.longer; held = is.held })
widen_left vips more routes others item (inr is) = inr (record { route = is.route; here = Contains-append_left routes others is.route is.here; ip = is.ip; len = is.len; network = is.network })

widen_right : (vips more : List Net) (routes others : List Route) (item : RouteItem) → IsOf more others item → IsOf (vips ++ more) (routes ++ others) item
widen_right vips more routes others item (inl is) = inl (record { vip = is.vip; here = Contains-append_right vips more is.vip is.here; longer = is.longer; held = is.held })
widen_right vips more routes others item (inr is) = inr (record { route = is.route; here = Contains-append_right routes others is.route is.here; ip = is.ip; len = is.len; network = is.network })

module _ (conf : Configuration) (valid : IsValid conf) (b : ℕ) (neighbours : List NeighRec) (group : DpId)
    (known : AllByRecursion (λ n. is_neighbour_address (vips_of conf n.vid) n.ip ≡ true) neighbours)
    (keys : EachBefore (λ n m. IsSameNeighbour n m → ⊥) neighbours) where
  abbrev items : ℕ → List RouteItem
  items u = option_map_or (items_for neighbours group b) (vlan_with conf.vlans u) []

  abbrev own_used : ℕ → List Net
  own_used u = used conf valid b u

  abbrev used_by : List ℕ → List Net
  used_by vids = all_used conf valid b vids

  -- what is known of one VLAN
  module _ (u : ℕ) (apart : EachBefore AreApart (own_used u)) (others : EachBefore NotSame (routes_of conf u)) (outside : LieOutside (routes_of conf u) (own_used u)) where
    known_of : (w : Vlan) → vlan_with conf.vlans u ≡ Some w → AllByRecursion (λ n. n.vid ≡ w.vid → is_neighbour_address w.vips n.ip ≡ true) neighbours
    known_of w is =
        all_from {P = λ (n : NeighRec). is_neighbour_address (vips_of conf n.vid) n.ip ≡ true} {Q = λ (n : NeighRec). n.vid ≡ w.vid → is_neighbour_address w.vips n.ip ≡ true}
        (λ n h same.
        let its : vips_of conf n.vid ≡ w.vips = ap (vips_of conf) (same ∙ eqb-true w.vid u (passes (λ v. v.vid == u) conf.vlans w is)) ∙ ap (λ o. option_map_or (λ (v : Vlan). v.vips) o []) is in
        sym (ap (λ vips. is_neighbour_address vips n.ip) its) ∙ h) neighbours known

    abbrev routes : Option Vlan → List Route
    routes o = option_map_or (λ v. v.routes) o []

    record AreItems (o : Option Vlan) : Type 0 where
      differ : EachBefore Differ (option_map_or (items_for neighbours group b) o [])
      are_of : AllByRecursion (IsOf (used_of b o) (routes o)) (option_map_or (items_for neighbours group b) o [])

    of_one : (o : Option Vlan) → vlan_with conf.vlans u ≡ o → EachBefore AreApart (used_of b o) → EachBefore NotSame (routes o) → LieOutside (routes o) (used_of b o) → AreItems o
    of_one None is apart others outside = record { differ = tt; are_of = tt }
    of_one (Some w) is apart others outside =
        let vlan = all_contains IsVlan conf.vlans valid.vlans.each w (within (λ v. v.vid == u) conf.vlans w is) in
        record {
          differ = items_differ neighbours group w (vips_from b w) (used_is_own b w) vlan.vips apart vlan.routes others outside (known_of w is) keys;
          are_of = items_are_of neighbours group w (vips_from b w) (used_is_own b w) vlan.vips apart vlan.routes others outside (known_of w is) keys;
        }

    are_items : AreItems (vlan_with conf.vlans u)
    are_items = of_one (vlan_with conf.vlans u) refl apart others outside

  -- and of all of them
  all_are_of : (vids : List ℕ) → EachBefore AreApart (used_by vids) → EachBefore NotSame (routes_in conf vids) → LieOutside (routes_in conf vids) (used_by vids)
      → AllByRecursion (IsOf (used_by vids) (routes_in conf vids)) (flat_map items vids) × EachBefore Differ (flat_map items vids)
  all_are_of [] apart others outside = (tt, tt)
  all_are_of (u ∷ more) apart others outside =
      let a = before_of_append AreApart (own_used u) (used_by more) apart in
      let o = before_of_append NotSame (routes_of conf u) (routes_in conf more) others in
      let left = λ (r : Route) (here : Contains (routes_of conf u) r). Contains-append_left (routes_of conf u) (routes_in conf more) r here in
      let right = λ (r : Route) (here : Contains (routes_in conf more) r). Contains-append_right (routes_of conf u) (routes_in conf more) r here in
      let near = λ (v : Net) (here : Contains (own_used u) v). Contains-append_left (own_used u) (used_by more) v here in
      let far = λ (v : Net) (here : Contains (used_by more) v). Contains-append_right (own_used u) (used_by more) v here in
      let first = are_items u a.0 o.0 (λ r here v there. outside r (left r here) v (near v there)) in
      let rest = all_are_of more a.1 o.1 (λ r here v there. outside r (right r here) v (far v there)) in (
        all_append (IsOf (used_by (u ∷ more)) (routes_in conf (u ∷ more))) (items u) (flat_map items more)
            (all_from {P = IsOf (own_used u) (routes_of conf u)} {Q = IsOf (used_by (u ∷ more)) (routes_in conf (u ∷ more))} (λ i is. widen_left (own_used u) (used_by more) (routes_of conf u) (routes_in conf more) i is) (items u) first.are_of)
            (all_from {P = IsOf (used_by more) (routes_in conf more)} {Q = IsOf (used_by (u ∷ more)) (routes_in conf (u ∷ more))} (λ i is. widen_right (own_used u) (used_by more) (routes_of conf u) (routes_in conf more) i is) (flat_map items more) rest.0),
        before_append Differ (items u) (flat_map items more) first.differ rest.1
            (differ_across (own_used u) (routes_of conf u) (used_by more) (routes_in conf more) a.2 o.2
            (λ r here v there. outside r (left r here) v (far v there)) (λ r here v there. outside r (right r here) v (near v there)) (items u) (flat_map items more) first.are_of rest.0),
      )

  -- ---- the routing set of a VLAN of the configuration

  module _ (v : Vlan) (is_vlan : Contains conf.vlans v) where
    abbrev set : List ℕ
    set = routing_set conf v.vid

    outside_of : (u : ℕ) → Contains set u → AllByRecursion (λ r. AllByRecursion (λ vip. LiesIn r.dst vip → ⊥) (vips_in conf set)) (routes_of conf u)
    outside_of u here = one (vlan_with conf.vlans u) refl
      where
        one : (o : Option Vlan) → vlan_with conf.vlans u ≡ o → AllByRecursion (λ r. AllByRecursion (λ vip. LiesIn r.dst vip → ⊥) (vips_in conf set)) (option_map_or (λ w. w.routes) o [])
        one None is = tt
        one (Some w) is =
            let valid_here = all_contains (RoutesAreValid conf) conf.vlans valid.routing.each w (within (λ x. x.vid == u) conf.vlans w is) in
            let one_set : routing_set conf w.vid ≡ set = ap (routing_set conf) (eqb-true w.vid u (passes (λ x. x.vid == u) conf.vlans w is)) ∙ same_set conf valid v.vid u here in
            subst (λ (vids : List ℕ). AllByRecursion (λ r. AllByRecursion (λ vip. LiesIn r.dst vip → ⊥) (vips_in conf vids)) w.routes) one_set valid_here.outside

    outside : LieOutside (routes_in conf set) (vips_in conf set)
    outside =
        let all = all_flat_map (routes_of conf) (λ r. AllByRecursion (λ vip. LiesIn r.dst vip → ⊥) (vips_in conf set)) set
        (all_by (λ u. AllByRecursion (λ r. AllByRecursion (λ vip. LiesIn r.dst vip → ⊥) (vips_in conf set)) (routes_of conf u)) set outside_of) in
        λ r here vip there. all_contains (λ x. LiesIn r.dst x → ⊥) (vips_in conf set) (all_contains (λ q. AllByRecursion (λ x. LiesIn q.dst x → ⊥) (vips_in conf set)) (routes_in conf set) all r here) vip there

    all_items : AllByRecursion (IsOf (used_by set) (routes_in conf set)) (flat_map items set) × EachBefore Differ (flat_map items set)
    all_items =
        all_are_of set
        (used_apart conf valid b set (set_is_distinct conf valid v.vid) (all_contains (λ w. EachBefore AreApartOrLocal (vips_in conf (routing_set conf w.vid))) conf.vlans valid.routing.vips v is_vlan))
        (all_contains (λ w. EachBefore NotSame (routes_in conf (routing_set conf w.vid))) conf.vlans valid.routing.routes v is_vlan)
        (λ r here vip there. outside r here vip (all_contains (λ x. Contains (vips_in conf set) x) (used_by set) (all_used_in conf valid b set) vip there))

-- the items of a VLAN's route list differ in their prefixes
pub route_items_differ : (conf : Configuration) → IsValid conf → (state : State) → IsValidState conf state → (group : DpId) → (v : Vlan) → Contains conf.vlans v → EachBefore Differ (route_list conf state.neighbours group v.vid)
unfolding route_list
route_items_differ conf valid state now group v is_vlan =
    (all_items conf valid v.vid state.neighbours group
    (all_from {P = IsNeighbour conf state} {Q = λ (n : NeighRec). is_neighbour_address (vips_of conf n.vid) n.ip ≡ true} (λ n is. is.address) state.neighbours now.neighbours)
    now.neighbour_keys v is_vlan).1

pub ruleset item_laws = route_items_differ
