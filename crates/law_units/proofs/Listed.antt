-- The units of a datapath are listed once each, and each that has an entry is listed.
use Rattle.std.proofs.Common.{◌≡◌, ℕ, ◌<◌, Bool, true, false, cond, ◌==◌, ◌&&◌, List, [], ◌∷◌, ◌++◌, map, filter, Option, Some, None, refl, sym, ap, ◌∙◌, subst, arith, eqb-true}
use Rattle.std.specs.Prelude.{Contains}
use Rattle.std.specs.List.{AllByRecursion, find}
use Rattle.std.specs.Option.{option_map_or}
use Rattle.std.proofs.lemmas.Bool.{and_parts}
use Rattle.of_match.specs.declared.entry.Entry.{Entry}
use Rattle.conf_types.specs.declared.datapath.Dp.{Dp}
use Rattle.conf_types.specs.declared.datapath.Port.{Port}
use Rattle.conf_types.specs.declared.state.HostRec.{HostRec}
use Rattle.conf_types.specs.declared.vlan.Vlan.{Vlan}
use Rattle.conf_types.specs.Configuration.{Configuration, port_with, vlan_with}
use Rattle.conf_types.specs.Groups.{group_of}
use Rattle.conf_types.specs.Lists.{EachBefore, AreDistinct, is_same}
use Rattle.conf_types.specs.State.{State, IsSameHost}
use Rattle.law_runs.specs.Members.{head_of, tail_of, of_all, all_by, all_joined, all_mapped, all_filtered, in_front, behind, in_mapped}
use Rattle.plan_units.specs.declared.unit.Unit.{Unit as PlanUnit}
use Rattle.plan_units.specs.declared.unit.Unit.TheVariants as unit
use Rattle.plan_units.specs.Agrees.{same_bytes}
use Rattle.plan_units.specs.Facts.{found, datapath}
use Rattle.plan_units.specs.Laws.{IsSetting}
use Rattle.plan_units.specs.Units.{of_port, of_vlan, of_host, of_routes, is_of_group, hosts_of, entries}
use Rattle.cold_start.specs.Cold.{units_of}

-- ---- what tells units apart

abbrev sort : PlanUnit → ℕ
sort unit.Dp = 0
sort (unit.Port number) = 1
sort (unit.Vlan vid) = 2
sort (unit.Host vid mac) = 3
sort (unit.Route vid) = 4

abbrev number : PlanUnit → ℕ
number unit.Dp = 0
number (unit.Port n) = n
number (unit.Vlan vid) = vid
number (unit.Host vid mac) = vid
number (unit.Route vid) = vid

abbrev address : PlanUnit → List ℕ
address unit.Dp = []
address (unit.Port n) = []
address (unit.Vlan vid) = []
address (unit.Host vid mac) = mac.0
address (unit.Route vid) = []

abbrev Differ : PlanUnit → PlanUnit → Type 0
Differ u w = u ≡ w → ⊥

-- ---- lists without repeats

mapped_apart : {A : Type 0} (f : A → PlanUnit) (xs : List A) → EachBefore (λ x y. Differ (f x) (f y)) xs → AreDistinct (map f xs)
mapped_apart f [] h = tt
mapped_apart f (x ∷ xs) h = (all_mapped (Differ (f x)) f xs h.0, mapped_apart f xs h.1)

-- of those that are kept
kept_apart : {A : Type 0} (R S : A → A → Type 0) (p : A → Bool) (xs : List A) → ((x y : A) → p x ≡ true → p y ≡ true → R x y → S x y) → EachBefore R xs → EachBefore S (filter p xs)
kept_apart R S p [] h all = tt
kept_apart {A = A} R S p (x ∷ xs) h all = by (p x) refl (kept_apart R S p xs h all.1)
  where
    by : (b : Bool) → p x ≡ b → EachBefore S (filter p xs) → EachBefore S (cond b (x ∷ filter p xs) (filter p xs))
    by true is more = (all_filtered (S x) p xs (all_by (λ y. p y ≡ true → S x y) xs (λ y c passes. h x y is passes (of_all (R x) xs all.0 y c))), more)
    by false is more = more

rising_apart : {A : Type 0} (key : A → ℕ) (f : A → PlanUnit) (xs : List A) → ((x y : A) → f x ≡ f y → key x ≡ key y) → EachBefore (λ x y. key x < key y) xs → AreDistinct (map f xs)
rising_apart {A = A} key f xs tells rise = mapped_apart f xs (go xs rise)
  where
    go : (ys : List A) → EachBefore (λ x y. key x < key y) ys → EachBefore (λ x y. Differ (f x) (f y)) ys
    go [] h = tt
    go (y ∷ ys) h = (all_by (λ z. Differ (f y) (f z)) ys (λ z c same. let less : key y < key z = of_all (λ w. key y < key w) ys h.0 z c in let is : key y ≡ key z = tells y z same in omega (arith, is, less)), go ys h.1)

-- one sort, and later ones behind it
abbrev AllOf : ℕ → List PlanUnit → Type 0
AllOf n us = AllByRecursion (λ u. sort u ≡ n) us

abbrev AllAbove : ℕ → List PlanUnit → Type 0
AllAbove n us = AllByRecursion (λ u. n < sort u) us

sorted : {A : Type 0} (n : ℕ) (f : A → PlanUnit) → ((x : A) → sort (f x) ≡ n) → (xs : List A) → AllOf n (map f xs)
sorted n f h xs = all_mapped (λ u. sort u ≡ n) f xs (all_by (λ x. sort (f x) ≡ n) xs (λ x c. h x))

raised : (m n : ℕ) → m < n → (us : List PlanUnit) → AllOf n us → AllAbove m us
raised m n less us all = all_by (λ u. m < sort u) us (λ u c. let is : sort u ≡ n = of_all (λ w. sort w ≡ n) us all u c in omega (arith, is, less))

above_both : (n : ℕ) (xs ys : List PlanUnit) → AllAbove n xs → AllAbove n ys → AllAbove n (xs ++ ys)
above_both n xs ys a b = all_joined (λ u. n < sort u) xs ys a b

two : (n : ℕ) (xs ys : List PlanUnit) → AreDistinct xs → AreDistinct ys → AllOf n xs → AllAbove n ys → AreDistinct (xs ++ ys)
two n [] ys dx dy ofs above = dy
two n (x ∷ xs) ys dx dy ofs above =
    (all_joined (Differ x) xs ys dx.0 (all_by (Differ x) ys (λ y c same. let less : n < sort y = of_all (λ u. n < sort u) ys above y c in let here : sort x ≡ n = ofs.0 in let is : sort x ≡ sort y = ap sort same in omega (arith, is, here, less))), two n xs ys dx.1 dy ofs.1 above)

-- ---- of a datapath

module _ (conf : Configuration) (now : State) (d : Dp) where
  ports : List PlanUnit
  ports = map (λ (i : Port). unit.Port i.no) d.ports

  vlans : List PlanUnit
  vlans = map (λ (v : Vlan). unit.Vlan v.vid) conf.vlans

  hosts : List PlanUnit
  hosts = map (λ (h : HostRec). unit.Host h.vid h.mac) (hosts_of conf now d)

  routes : List PlanUnit
  routes = map (λ (v : Vlan). unit.Route v.vid) conf.vlans

  pub once : IsSetting conf now d → AreDistinct (units_of conf now d)
  unfolding units_of ports vlans hosts routes
  once s =
      let rising = s.valid.vlans.in_order in
      let of_ports : AreDistinct ports = rising_apart (λ (i : Port). i.no) (λ (i : Port). unit.Port i.no) d.ports (λ i j same. ap number same) (datapath conf s.valid d s.is_dp).in_order in
      let of_vlans : AreDistinct vlans = rising_apart (λ (v : Vlan). v.vid) (λ (v : Vlan). unit.Vlan v.vid) conf.vlans (λ v w same. ap number same) rising in
      let of_routes : AreDistinct routes = rising_apart (λ (v : Vlan). v.vid) (λ (v : Vlan). unit.Route v.vid) conf.vlans (λ v w same. ap number same) rising in
      let of_hosts : AreDistinct hosts =
      mapped_apart (λ (h : HostRec). unit.Host h.vid h.mac) (hosts_of conf now d)
      (kept_apart (λ (g h : HostRec). IsSameHost conf g h → ⊥) (λ (g h : HostRec). Differ (unit.Host g.vid g.mac) (unit.Host h.vid h.mac)) (is_of_group conf d) now.hosts
      (λ g h ours theirs apart same. apart (record {
        groups = eqb-true (group_of conf g.dp).0 (group_of conf d.id).0 ours ∙ sym (eqb-true (group_of conf h.dp).0 (group_of conf d.id).0 theirs);
        vlans = ap number same;
        macs = ap address same;
      })) s.state.host_keys) in
      let as_ports : AllOf 1 ports = sorted 1 (λ (i : Port). unit.Port i.no) (λ i. refl) d.ports in
      let as_vlans : AllOf 2 vlans = sorted 2 (λ (v : Vlan). unit.Vlan v.vid) (λ v. refl) conf.vlans in
      let as_hosts : AllOf 3 hosts = sorted 3 (λ (h : HostRec). unit.Host h.vid h.mac) (λ h. refl) (hosts_of conf now d) in
      let as_routes : AllOf 4 routes = sorted 4 (λ (v : Vlan). unit.Route v.vid) (λ v. refl) conf.vlans in
      let above_3 : AllAbove 3 routes = raised 3 4 (omega arith) routes as_routes in
      let above_2 : AllAbove 2 (hosts ++ routes) = above_both 2 hosts routes (raised 2 3 (omega arith) hosts as_hosts) (raised 2 4 (omega arith) routes as_routes) in
      let above_1 : AllAbove 1 (vlans ++ (hosts ++ routes)) = above_both 1 vlans (hosts ++ routes) (raised 1 2 (omega arith) vlans as_vlans) (above_both 1 hosts routes (raised 1 3 (omega arith) hosts as_hosts) (raised 1 4 (omega arith) routes as_routes)) in
      let above_0 : AllAbove 0 (ports ++ (vlans ++ (hosts ++ routes))) =
      above_both 0 ports (vlans ++ (hosts ++ routes)) (raised 0 1 (omega arith) ports as_ports) (above_both 0 vlans (hosts ++ routes) (raised 0 2 (omega arith) vlans as_vlans) (above_both 0 hosts routes (raised 0 3 (omega arith) hosts as_hosts) (raised 0 4 (omega arith) routes as_routes))) in
      two 0 (unit.Dp ∷ []) (ports ++ (vlans ++ (hosts ++ routes))) (tt, tt)
      (two 1 ports (vlans ++ (hosts ++ routes)) of_ports
      (two 2 vlans (hosts ++ routes) of_vlans (two 3 hosts routes of_hosts of_routes as_hosts above_3) as_vlans above_2) as_ports above_1) (refl, tt) above_0

  -- ---- a unit that has an entry is listed

  abbrev All : List PlanUnit
  All = unit.Dp ∷ (ports ++ (vlans ++ (hosts ++ routes)))

  nothing : {u : PlanUnit} (e : Entry) → Contains [] e → Contains All u
  nothing e (k, lt, is) = absurd (omega (arith, lt))

  pub listed : (u : PlanUnit) (e : Entry) → Contains (entries conf now d u) e → Contains (units_of conf now d) u
  unfolding units_of ports vlans hosts routes
  listed unit.Dp e c = head_of unit.Dp (ports ++ (vlans ++ (hosts ++ routes)))
  listed (unit.Port n) e c = by (port_with d.ports n) refl c
    where
      by : (o : Option Port) → port_with d.ports n ≡ o → Contains (option_map_or (of_port conf now d) o []) e → Contains All (unit.Port n)
      by None is none = nothing {u = unit.Port n} e none
      by (Some i) is here =
          let f = found (λ (q : Port). q.no == n) d.ports i is in
          let there = in_front ports (vlans ++ (hosts ++ routes)) (unit.Port i.no) (in_mapped (λ (q : Port). unit.Port q.no) d.ports i f.within) in
          subst (λ m. Contains All (unit.Port m)) (eqb-true i.no n f.passes) (tail_of unit.Dp _ (unit.Port i.no) there)
  listed (unit.Vlan n) e c = by (vlan_with conf.vlans n) refl c
    where
      by : (o : Option Vlan) → vlan_with conf.vlans n ≡ o → Contains (option_map_or (of_vlan conf now d) o []) e → Contains All (unit.Vlan n)
      by None is none = nothing {u = unit.Vlan n} e none
      by (Some v) is here =
          let f = found (λ (w : Vlan). w.vid == n) conf.vlans v is in
          let there = behind ports (vlans ++ (hosts ++ routes)) (unit.Vlan v.vid) (in_front vlans (hosts ++ routes) (unit.Vlan v.vid) (in_mapped (λ (w : Vlan). unit.Vlan w.vid) conf.vlans v f.within)) in
          subst (λ m. Contains All (unit.Vlan m)) (eqb-true v.vid n f.passes) (tail_of unit.Dp _ (unit.Vlan v.vid) there)
  listed (unit.Host n mac) e c = by (find (λ h. h.vid == n && is_same h.mac.0 mac.0) (hosts_of conf now d)) refl c
    where
      by : (o : Option HostRec) → find (λ h. h.vid == n && is_same h.mac.0 mac.0) (hosts_of conf now d) ≡ o → Contains (option_map_or (of_host conf now d) o []) e → Contains All (unit.Host n mac)
      by None is none = nothing {u = unit.Host n mac} e none
      by (Some h) is here =
          let f = found (λ (g : HostRec). g.vid == n && is_same g.mac.0 mac.0) (hosts_of conf now d) h is in
          let p = and_parts (h.vid == n) (is_same h.mac.0 mac.0) f.passes in
          let vids : h.vid ≡ n = eqb-true h.vid n p.0 in
          let macs : h.mac.0 ≡ mac.0 = same_bytes h.mac.0 mac.0 p.1 in
          let there = behind ports (vlans ++ (hosts ++ routes)) (unit.Host h.vid h.mac) (behind vlans (hosts ++ routes) (unit.Host h.vid h.mac) (in_front hosts routes (unit.Host h.vid h.mac) (in_mapped (λ (g : HostRec). unit.Host g.vid g.mac) (hosts_of conf now d) h f.within))) in
          subst (λ (u : PlanUnit). Contains All u) (λ i. unit.Host (vids i) (record { 0 = macs i })) (tail_of unit.Dp _ (unit.Host h.vid h.mac) there)
  listed (unit.Route n) e c = by (vlan_with conf.vlans n) refl c
    where
      by : (o : Option Vlan) → vlan_with conf.vlans n ≡ o → Contains (option_map_or (of_routes conf now d) o []) e → Contains All (unit.Route n)
      by None is none = nothing {u = unit.Route n} e none
      by (Some v) is here =
          let f = found (λ (w : Vlan). w.vid == n) conf.vlans v is in
          let there = behind ports (vlans ++ (hosts ++ routes)) (unit.Route v.vid) (behind vlans (hosts ++ routes) (unit.Route v.vid) (behind hosts routes (unit.Route v.vid) (in_mapped (λ (w : Vlan). unit.Route w.vid) conf.vlans v f.within))) in
          subst (λ m. Contains All (unit.Route m)) (eqb-true v.vid n f.passes) (tail_of unit.Dp _ (unit.Route v.vid) there)
