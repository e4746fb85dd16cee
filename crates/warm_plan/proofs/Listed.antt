-- The units that are listed from changes are those that these reach, each once.
use Rattle.std.proofs.Common.{◌≡◌, ◌∙◌, ℕ, ◌==◌, ◌&&◌, ◌||◌, inl, inr, Bool, true, false, List, [], ◌∷◌, ◌++◌, map, filter, Option, Some, None, is_some, if◌then◌else◌, refl, sym, ap, subst, arith, true≢false, eqb-true, eq-eqb}
use Rattle.std.specs.Prelude.{Contains}
use Rattle.std.specs.List.{find}
use Rattle.std.specs.BTreeSet.{BTreeSet, IsFromIterResult}
use Rattle.std.specs.List.Sorted.{IsStrictlySortedBy}
use Rattle.std.specs.Ordering.{is_eq}
use Rattle.std.specs.declared.cmp.Ordering.TheVariants.{Less}
use Rattle.std.proofs.lemmas.Bool.{and_parts}
use Rattle.std.proofs.lemmas.Cmp.{tied_itself}
use Rattle.std.proofs.lemmas.List.Elements.{Contains-append_cases}
use Rattle.std.proofs.lemmas.Map.Views.{btree_set_contains_from_list, btree_set_contains_iff}
use Rattle.net_base.specs.declared.address.Mac.{Mac}
use Rattle.conf_types.specs.declared.datapath.Dp.{Dp}
use Rattle.conf_types.specs.declared.datapath.Port.{Port}
use Rattle.conf_types.specs.declared.state.HostRec.{HostRec}
use Rattle.conf_types.specs.declared.vlan.Vlan.{Vlan}
use Rattle.conf_types.specs.Configuration.{Configuration}
use Rattle.conf_types.specs.Groups.{group_of}
use Rattle.conf_types.specs.Lists.{AreDistinct, is_same, is_among}
use Rattle.conf_types.specs.Routing.{routing_set}
use Rattle.conf_types.specs.State.{State, is_host_in}
use Rattle.law_runs.specs.Members.{head_of, tail_of, of_all, in_front, behind, in_mapped, in_filtered, in_then}
use Rattle.plan_base.proofs.Each.{all_from}
use Rattle.plan_units.specs.declared.unit.Unit.{Unit as PlanUnit}
use Rattle.plan_units.specs.declared.unit.Unit.TheVariants as unit
use Rattle.plan_units.specs.Agrees.{same_bytes, equal_bytes}
use Rattle.plan_units.specs.Facts.{found, none_found}
use Rattle.plan_units.specs.Order.{unit_cmp, unit_total, exact_units}
use Rattle.plan_units.specs.Units.{is_of_group, hosts_of}
use Rattle.cold_start.specs.Cold.{units_of}
use Rattle.warm_plan.specs.declared.effect.Effect.{Effect}
use Rattle.warm_plan.specs.declared.effect.Effect.TheVariants.{Nothing, Host, Stack, Routes}
use Rattle.warm_plan.specs.declared.effect.HostEffect.{HostEffect}
use Rattle.warm_plan.specs.Effects.{touches, effect_reaches, reached_by, is_held, own_unit, touched_ports, linked_units, routed_units, units_by, all_units_by}
use Rattle.warm_plan.specs.Once.{AreOnce}
use Rattle.warm_plan.proofs.Commands.{of_cons, of_kept, of_flat}

-- ---- members

record IsMapped {A B : Type 0} (f : A → B) (xs : List A) (y : B) : Type 0 where
  pub from : A
  pub within : Contains xs from
  pub is : f from ≡ y

of_mapped : {A B : Type 0} (f : A → B) (xs : List A) (y : B) → Contains (map f xs) y → IsMapped f xs y
of_mapped f [] y (k, lt, is) = absurd (omega (arith, lt))
of_mapped f (x ∷ xs) y c = elim (of_cons (f x) (map f xs) y c) [
  | inl same ↦ record { from = x; within = head_of x xs; is = same }
  | inr other ↦ let more = of_mapped f xs y other in record { from = more.from; within = tail_of x xs more.from more.within; is = more.is }
]

-- what passes is found
is_found : {A : Type 0} (p : A → Bool) (xs : List A) (x : A) → Contains xs x → p x ≡ true → is_some (find p xs) ≡ true
is_found {A = A} p xs x c passes = by (find p xs) refl
  where
    by : (o : Option A) → find p xs ≡ o → is_some (find p xs) ≡ true
    by None is = absurd (true≢false (sym passes ∙ of_all (λ y. p y ≡ false) xs (none_found p xs is) x c))
    by (Some y) is = ap is_some is

record IsFoundOf {A : Type 0} (p : A → Bool) (xs : List A) : Type 0 where
  pub item : A
  pub within : Contains xs item
  pub passes : p item ≡ true

finds : {A : Type 0} (p : A → Bool) (xs : List A) → is_some (find p xs) ≡ true → IsFoundOf p xs
finds {A = A} p xs is = by (find p xs) refl
  where
    by : (o : Option A) → find p xs ≡ o → IsFoundOf p xs
    by None none = absurd (true≢false (sym is ∙ ap is_some none))
    by (Some y) one = let f = found p xs y one in record { item = y; within = f.within; passes = f.passes }

-- ---- the units of a datapath

module _ (conf : Configuration) (now : State) (d : Dp) where
  abbrev ports : List PlanUnit
  ports = map (λ i. unit.Port i.no) d.ports

  abbrev vlans : List PlanUnit
  vlans = map (λ v. unit.Vlan v.vid) conf.vlans

  abbrev hosts : List PlanUnit
  hosts = map (λ h. unit.Host h.vid h.mac) (hosts_of conf now d)

  abbrev routes : List PlanUnit
  routes = map (λ v. unit.Route v.vid) conf.vlans

  abbrev others : List PlanUnit
  others = ports ++ (vlans ++ (hosts ++ routes))

  pub dp_listed : Contains (units_of conf now d) unit.Dp
  unfolding units_of
  dp_listed = head_of unit.Dp others

  pub port_listed : (i : Port) → Contains d.ports i → Contains (units_of conf now d) (unit.Port i.no)
  unfolding units_of
  port_listed i c = tail_of unit.Dp others (unit.Port i.no) (in_front ports (vlans ++ (hosts ++ routes)) (unit.Port i.no) (in_mapped (λ (p : Port). unit.Port p.no) d.ports i c))

  pub vlan_listed : (v : Vlan) → Contains conf.vlans v → Contains (units_of conf now d) (unit.Vlan v.vid)
  unfolding units_of
  vlan_listed v c =
      tail_of unit.Dp others (unit.Vlan v.vid) (behind ports (vlans ++ (hosts ++ routes)) (unit.Vlan v.vid)
      (in_front vlans (hosts ++ routes) (unit.Vlan v.vid) (in_mapped (λ (w : Vlan). unit.Vlan w.vid) conf.vlans v c)))

  pub host_listed : (h : HostRec) → Contains (hosts_of conf now d) h → Contains (units_of conf now d) (unit.Host h.vid h.mac)
  unfolding units_of
  host_listed h c =
      tail_of unit.Dp others (unit.Host h.vid h.mac) (behind ports (vlans ++ (hosts ++ routes)) (unit.Host h.vid h.mac) (behind vlans (hosts ++ routes) (unit.Host h.vid h.mac)
      (in_front hosts routes (unit.Host h.vid h.mac) (in_mapped (λ (g : HostRec). unit.Host g.vid g.mac) (hosts_of conf now d) h c))))

  pub route_listed : (v : Vlan) → Contains conf.vlans v → Contains (units_of conf now d) (unit.Route v.vid)
  unfolding units_of
  route_listed v c =
      tail_of unit.Dp others (unit.Route v.vid) (behind ports (vlans ++ (hosts ++ routes)) (unit.Route v.vid) (behind vlans (hosts ++ routes) (unit.Route v.vid)
      (behind hosts routes (unit.Route v.vid) (in_mapped (λ (w : Vlan). unit.Route w.vid) conf.vlans v c))))

  module _ (P : PlanUnit → Type 0) (at_dp : P unit.Dp) (at_port : (i : Port) → Contains d.ports i → P (unit.Port i.no)) (at_vlan : (v : Vlan) → Contains conf.vlans v → P (unit.Vlan v.vid))
      (at_host : (h : HostRec) → Contains (hosts_of conf now d) h → P (unit.Host h.vid h.mac)) (at_route : (v : Vlan) → Contains conf.vlans v → P (unit.Route v.vid)) where
    by_port : (u : PlanUnit) → Contains ports u → P u
    by_port u c = let m = of_mapped (λ (i : Port). unit.Port i.no) d.ports u c in subst P m.is (at_port m.from m.within)

    by_vlan : (u : PlanUnit) → Contains vlans u → P u
    by_vlan u c = let m = of_mapped (λ (v : Vlan). unit.Vlan v.vid) conf.vlans u c in subst P m.is (at_vlan m.from m.within)

    by_host : (u : PlanUnit) → Contains hosts u → P u
    by_host u c = let m = of_mapped (λ (h : HostRec). unit.Host h.vid h.mac) (hosts_of conf now d) u c in subst P m.is (at_host m.from m.within)

    by_route : (u : PlanUnit) → Contains routes u → P u
    by_route u c = let m = of_mapped (λ (v : Vlan). unit.Route v.vid) conf.vlans u c in subst P m.is (at_route m.from m.within)

    by_others : (u : PlanUnit) → Contains others u → P u
    by_others u c = elim (Contains-append_cases ports (vlans ++ (hosts ++ routes)) u c) [
      | inl port ↦ by_port u port
      | inr later ↦ elim (Contains-append_cases vlans (hosts ++ routes) u later) [
        | inl vlan ↦ by_vlan u vlan
        | inr last ↦ elim (Contains-append_cases hosts routes u last) [
          | inl host ↦ by_host u host
          | inr route ↦ by_route u route
        ]
      ]
    ]

    -- what holds of each kind of member's unit holds of each unit
    pub by_member : (u : PlanUnit) → Contains (units_of conf now d) u → P u
    unfolding units_of
    by_member u c = elim (of_cons unit.Dp others u c) [ inl is ↦ subst P is at_dp | inr more ↦ by_others u more ]

-- ---- what one reaches

module _ (conf : Configuration) (now : State) (d : Dp) where
  abbrev listed : Effect → List PlanUnit
  listed e = units_by conf d now.hosts e

  abbrev asked : ℕ → Mac → HostRec → Bool
  asked vid mac h = is_host_in conf (group_of conf d.id) vid h && is_same h.mac.0 mac.0

  abbrev own : HostEffect → List PlanUnit
  own h = own_unit conf d now.hosts h

  abbrev touched : HostEffect → List PlanUnit
  touched h = touched_ports conf d now.hosts h

  -- a host of the group is held by its VLAN and address
  pub held : (g : HostRec) → Contains (hosts_of conf now d) g → is_held conf d now.hosts g.vid g.mac ≡ true
  held g c =
      let kept = of_kept (is_of_group conf d) now.hosts g c in
      is_found (asked g.vid g.mac) now.hosts g kept.within (λ i. (kept.passes i && eq-eqb g.vid g.vid refl i) && equal_bytes g.mac.0 g.mac.0 refl i)

  -- and one that is held is a host of the group
  pub held_unit : (vid : ℕ) (mac : Mac) → is_held conf d now.hosts vid mac ≡ true → Contains (units_of conf now d) (unit.Host vid mac)
  held_unit vid mac is =
      let one = finds (asked vid mac) now.hosts is in
      let parts = and_parts (is_host_in conf (group_of conf d.id) vid one.item) (is_same (one.item).mac.0 mac.0) one.passes in
      let inner = and_parts ((group_of conf (one.item).dp).0 == (group_of conf d.id).0) ((one.item).vid == vid) parts.0 in
      let same : unit.Host (one.item).vid (one.item).mac ≡ unit.Host vid mac = λ i. unit.Host (eqb-true (one.item).vid vid inner.1 i) (record { 0 = same_bytes (one.item).mac.0 mac.0 parts.1 i }) in
      subst (λ (u : PlanUnit). Contains (units_of conf now d) u) same (host_listed conf now d one.item (in_filtered (is_of_group conf d) now.hosts one.item one.within inner.0))

  -- ---- each that is listed is reached, and a unit of the datapath

  abbrev Both : Effect → PlanUnit → Type 0
  Both e u = (effect_reaches conf d e u ≡ true) × Contains (units_of conf now d) u

  own_both : (h : HostEffect) (u : PlanUnit) → Contains (own h) u → Both (Host h) u
  own_both h u c = by (h.is_ours && is_held conf d now.hosts h.vid h.mac) refl c
    where
      one : h.is_ours ≡ true → is_held conf d now.hosts h.vid h.mac ≡ true → Both (Host h) (unit.Host h.vid h.mac)
      one ours is = ((λ i. ours i && (eq-eqb h.vid h.vid refl i && equal_bytes h.mac.0 h.mac.0 refl i)), held_unit h.vid h.mac is)

      none : Contains [] u → Both (Host h) u
      none (k, lt, is) = absurd (omega (arith, lt))

      by : (b : Bool) → (h.is_ours && is_held conf d now.hosts h.vid h.mac) ≡ b → Contains (if b then unit.Host h.vid h.mac ∷ [] else []) u → Both (Host h) u
      by true is there =
          let parts = and_parts h.is_ours (is_held conf d now.hosts h.vid h.mac) is in
          elim (of_cons (unit.Host h.vid h.mac) [] u there) [
            | inl same ↦ subst (Both (Host h)) same (one parts.0 parts.1)
            | inr more ↦ none more
          ]
      by false is there = none there

  port_both : (h : HostEffect) (u : PlanUnit) → Contains (touched h) u → Both (Host h) u
  port_both h u c =
      let m = of_mapped (λ (i : Port). unit.Port i.no) (filter (λ (i : Port). touches d h i.no) d.ports) u c in
      let kept = of_kept (λ (i : Port). touches d h i.no) d.ports m.from m.within in
      subst (Both (Host h)) m.is (kept.passes, port_listed conf now d m.from kept.within)

  linked_both : (u : PlanUnit) → Contains (linked_units conf d now.hosts) u → Both Stack u
  linked_both u c = elim (Contains-append_cases (map (λ (v : Vlan). unit.Vlan v.vid) conf.vlans) (map (λ (h : HostRec). unit.Host h.vid h.mac) (hosts_of conf now d)) u c) [
    | inl vlan ↦ let m = of_mapped (λ (v : Vlan). unit.Vlan v.vid) conf.vlans u vlan in subst (Both Stack) m.is (refl, vlan_listed conf now d m.from m.within)
    | inr host ↦ let m = of_mapped (λ (h : HostRec). unit.Host h.vid h.mac) (hosts_of conf now d) u host in subst (Both Stack) m.is (refl, host_listed conf now d m.from m.within)
  ]

  routed_both : (vid : ℕ) (u : PlanUnit) → Contains (routed_units conf d now.hosts vid) u → Both (Routes vid) u
  routed_both vid u c =
      let m = of_mapped (λ (v : Vlan). unit.Route v.vid) (filter (λ (v : Vlan). is_among (routing_set conf v.vid) vid) conf.vlans) u c in
      let kept = of_kept (λ (v : Vlan). is_among (routing_set conf v.vid) vid) conf.vlans m.from m.within in
      subst (Both (Routes vid)) m.is (kept.passes, route_listed conf now d m.from kept.within)

  effect_both : (e : Effect) (u : PlanUnit) → Contains (listed e) u → Both e u
  effect_both Nothing u (k, lt, is) = absurd (omega (arith, lt))
  effect_both (Host h) u c = elim (Contains-append_cases (own h) (touched h) u c) [ inl one ↦ own_both h u one | inr port ↦ port_both h u port ]
  effect_both Stack u c = linked_both u c
  effect_both (Routes vid) u c = routed_both vid u c

  -- ---- each unit of the datapath that is reached is listed

  abbrev Lists : Effect → PlanUnit → Type 0
  Lists e u = effect_reaches conf d e u ≡ true → Contains (listed e) u

  lists_host : (h : HostEffect) (g : HostRec) → Contains (hosts_of conf now d) g → Lists (Host h) (unit.Host g.vid g.mac)
  lists_host h g c reached =
      let parts = and_parts h.is_ours (h.vid == g.vid && is_same h.mac.0 g.mac.0) reached in
      let inner = and_parts (h.vid == g.vid) (is_same h.mac.0 g.mac.0) parts.1 in
      let vid : h.vid ≡ g.vid = eqb-true h.vid g.vid inner.0 in
      let mac : h.mac ≡ g.mac = λ i. record { 0 = same_bytes h.mac.0 g.mac.0 inner.1 i } in
      let is : (h.is_ours && is_held conf d now.hosts h.vid h.mac) ≡ true = (λ i. parts.0 i && is_held conf d now.hosts (vid i) (mac i)) ∙ held g c in
      let same : unit.Host h.vid h.mac ≡ unit.Host g.vid g.mac = λ i. unit.Host (vid i) (mac i) in
      subst (λ (u : PlanUnit). Contains (own h ++ touched h) u) same
      (in_front (own h) (touched h) (unit.Host h.vid h.mac) (in_then (h.is_ours && is_held conf d now.hosts h.vid h.mac) (unit.Host h.vid h.mac ∷ []) [] (unit.Host h.vid h.mac) is (head_of (unit.Host h.vid h.mac) [])))

  lists_port : (h : HostEffect) (i : Port) → Contains d.ports i → Lists (Host h) (unit.Port i.no)
  lists_port h i c reached =
      behind (own h) (touched h) (unit.Port i.no) (in_mapped (λ (p : Port). unit.Port p.no) (filter (λ (p : Port). touches d h p.no) d.ports) i (in_filtered (λ (p : Port). touches d h p.no) d.ports i c reached))

  effect_lists : (e : Effect) (u : PlanUnit) → Contains (units_of conf now d) u → Lists e u
  effect_lists Nothing u c = λ reached. absurd (true≢false (sym reached))
  effect_lists (Host h) u c =
      by_member conf now d (Lists (Host h)) (λ reached. absurd (true≢false (sym reached))) (lists_port h) (λ v there reached. absurd (true≢false (sym reached))) (lists_host h)
      (λ v there reached. absurd (true≢false (sym reached))) u c
  effect_lists Stack u c =
      by_member conf now d (Lists Stack) (λ reached. absurd (true≢false (sym reached))) (λ i there reached. absurd (true≢false (sym reached)))
      (λ v there reached. in_front (map (λ (w : Vlan). unit.Vlan w.vid) conf.vlans) (map (λ (h : HostRec). unit.Host h.vid h.mac) (hosts_of conf now d)) (unit.Vlan v.vid) (in_mapped (λ (w : Vlan). unit.Vlan w.vid) conf.vlans v there))
      (λ h there reached. behind (map (λ (w : Vlan). unit.Vlan w.vid) conf.vlans) (map (λ (g : HostRec). unit.Host g.vid g.mac) (hosts_of conf now d)) (unit.Host h.vid h.mac) (in_mapped (λ (g : HostRec). unit.Host g.vid g.mac) (hosts_of conf now d) h there))
      (λ v there reached. absurd (true≢false (sym reached))) u c
  effect_lists (Routes vid) u c =
      by_member conf now d (Lists (Routes vid)) (λ reached. absurd (true≢false (sym reached))) (λ i there reached. absurd (true≢false (sym reached))) (λ v there reached. absurd (true≢false (sym reached)))
      (λ h there reached. absurd (true≢false (sym reached)))
      (λ v there reached. in_mapped (λ (w : Vlan). unit.Route w.vid) (filter (λ (w : Vlan). is_among (routing_set conf w.vid) vid) conf.vlans) v (in_filtered (λ (w : Vlan). is_among (routing_set conf w.vid) vid) conf.vlans v there reached)) u c

  -- ---- of all of them

  pub some_reaches : (effects : List Effect) (u : PlanUnit) (e : Effect) → Contains effects e → effect_reaches conf d e u ≡ true → reached_by conf d effects u ≡ true
  some_reaches [] u e (k, lt, is) reached = absurd (omega (arith, lt))
  some_reaches (f ∷ effects) u e c reached = elim (of_cons f effects e c) [
    | inl same ↦ ap (λ b. b || reached_by conf d effects u) (ap (λ (x : Effect). effect_reaches conf d x u) same ∙ reached)
    | inr more ↦ by (effect_reaches conf d f u) (some_reaches effects u e more reached)
  ]
    where
      by : (b : Bool) → reached_by conf d effects u ≡ true → (b || reached_by conf d effects u) ≡ true
      by true is = refl
      by false is = is

  pub listed_reached : (effects : List Effect) (u : PlanUnit) → Contains (all_units_by conf d now.hosts effects) u → (reached_by conf d effects u ≡ true) × Contains (units_of conf now d) u
  listed_reached effects u c =
      let of = of_flat listed effects u c in
      let both = effect_both of.from u of.here in
      (some_reaches effects u of.from of.within both.0, both.1)

  pub reached_listed : (effects : List Effect) (u : PlanUnit) → Contains (units_of conf now d) u → reached_by conf d effects u ≡ true → Contains (all_units_by conf d now.hosts effects) u
  reached_listed [] u c reached = absurd (true≢false (sym reached))
  reached_listed (e ∷ effects) u c reached = by (effect_reaches conf d e u) refl reached (reached_listed effects u c)
    where
      by : (b : Bool) → effect_reaches conf d e u ≡ b → (b || reached_by conf d effects u) ≡ true → (reached_by conf d effects u ≡ true → Contains (all_units_by conf d now.hosts effects) u)
          → Contains (listed e ++ all_units_by conf d now.hosts effects) u
      by true is any more = in_front (listed e) (all_units_by conf d now.hosts effects) u (effect_lists e u c is)
      by false is any more = behind (listed e) (all_units_by conf d now.hosts effects) u (more any)

-- ---- each once

abbrev pub IsSorted : List PlanUnit → Type 0
IsSorted us = IsStrictlySortedBy unit_cmp us

sorted_distinct : (us : List PlanUnit) → IsSorted us → AreDistinct us
unfolding IsStrictlySortedBy
sorted_distinct [] sorted = tt
sorted_distinct (u ∷ us) sorted = (all_from (λ w less same. below u w less same) us sorted.0, sorted_distinct us sorted.1)
  where
    below : (u w : PlanUnit) → unit_cmp u w ≡ Less → u ≡ w → ⊥
    below u w less same = true≢false (sym (ap is_eq (tied_itself unit_total u)) ∙ ap is_eq (ap (unit_cmp u) same ∙ less))

pub once_from : (all : List PlanUnit) (set : BTreeSet PlanUnit) → IsFromIterResult unit_cmp all set → AreOnce set.keys all
once_from all set made = record {
  once = sorted_distinct set.keys made.1;
  same = λ u.
      let in_set = btree_set_contains_iff unit_total exact_units set u in
      let of_list = btree_set_contains_from_list unit_total exact_units all set made u in
      ((λ c. of_list.0 (in_set.1 c)), (λ c. in_set.0 (of_list.1 c)));
}
