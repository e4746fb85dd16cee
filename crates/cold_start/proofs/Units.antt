-- The entries of all units are the plan, and two units have no key in common.
use Rattle.std.proofs.Common.{◌≡◌, ℕ, ◌+◌, ◌<◌, Bool, true, false, ◌==◌, ◌&&◌, List, [], ◌∷◌, ◌++◌, map, Option, Some, None, refl, sym, ap, ◌∙◌, subst, arith, eqb-true, eq-eqb, true≢false}
use Rattle.std.specs.Prelude.{Contains}
use Rattle.std.specs.List.{find, flat_map}
use Rattle.std.specs.Option.{option_map_or}
use Rattle.std.proofs.lemmas.Bool.{and_parts}
use Rattle.std.proofs.lemmas.List.Concat.{flat_map-append}
use Rattle.std.proofs.lemmas.List.Folds.{flat_map-map}
use Rattle.net_base.specs.declared.address.Mac.{Mac}
use Rattle.net_base.specs.Address.{IsSixBytes, mac_value}
use Rattle.of_match.specs.declared.entry.Entry.{Entry}
use Rattle.conf_types.specs.declared.datapath.Dp.{Dp}
use Rattle.conf_types.specs.declared.datapath.Port.{Port}
use Rattle.conf_types.specs.declared.state.HostRec.{HostRec}
use Rattle.conf_types.specs.declared.vlan.Vlan.{Vlan}
use Rattle.conf_types.specs.Configuration.{Configuration, port_with, vlan_with}
use Rattle.conf_types.specs.Groups.{group_of}
use Rattle.conf_types.specs.Lists.{EachBefore, is_same}
use Rattle.conf_types.specs.State.{State, IsSameHost}
use Rattle.plan_base.proofs.Each.{all_contains, all_filter, before_both}
use Rattle.plan_units.specs.declared.unit.Unit.{Unit as PlanUnit}
use Rattle.plan_units.specs.declared.unit.Unit.TheVariants as unit
use Rattle.plan_units.specs.Agrees.{same_address, same_bytes, equal_bytes}
use Rattle.plan_units.specs.Facts.{found, none_found, apart_or_one, one_number, datapath}
use Rattle.plan_units.specs.Fixed.{fixed}
use Rattle.plan_units.specs.Laws.{IsSetting}
use Rattle.plan_units.specs.Units.{of_port, of_vlan, of_host, of_routes, is_of_group, hosts_of, entries, plan}
use Rattle.law_runs.specs.Members.{head_of, tail_of, of_all}
use Rattle.cold_start.specs.Cold.{units_of}
use Rattle.cold_start.proofs.Lists.{kept_before, all_pass}
use Rattle.cold_start.proofs.Owners.{Owner, Owned, owner, datapath as of_datapath, interface, vlan, host, routes, port_owned, vlan_owned, host_owned, routes_owned, fixed_owned}

-- ---- a member is found by its own number

is_found : {A : Type 0} (test : A → Bool) (xs : List A) (x : A) → Contains xs x → test x ≡ true → ((y : A) → Contains xs y → test y ≡ true → y ≡ x) → find test xs ≡ Some x
is_found {A = A} test xs x c passes one = by (find test xs) refl
  where
    by : (o : Option A) → find test xs ≡ o → find test xs ≡ Some x
    by None is = absurd (true≢false (sym passes ∙ of_all (λ y. test y ≡ false) xs (none_found test xs is) x c))
    by (Some y) is = let f = found test xs y is in is ∙ ap Some (one y f.within f.passes)

by_number : {A : Type 0} (key : A → ℕ) (xs : List A) → EachBefore (λ x y. key x < key y) xs → (x : A) → Contains xs x → find (λ y. key y == key x) xs ≡ Some x
by_number key xs rise x c = is_found (λ y. key y == key x) xs x c (eq-eqb (key x) (key x) refl) (λ y cy is. one_number key xs rise y x cy c (eqb-true (key y) (key x) is))

same_flat : {A B : Type 0} (f g : A → List B) (xs : List A) → ((x : A) → Contains xs x → f x ≡ g x) → flat_map f xs ≡ flat_map g xs
same_flat f g [] h = refl
same_flat f g (x ∷ xs) h = ap (λ l. l ++ flat_map f xs) (h x (head_of x xs)) ∙ ap (λ l. g x ++ l) (same_flat f g xs (λ y c. h y (tail_of x xs y c)))

module _ (conf : Configuration) (now : State) (d : Dp) (s : IsSetting conf now d) where
  abbrev all : List HostRec
  all = hosts_of conf now d

  abbrev Other : HostRec → HostRec → Type 0
  Other g h = (is_of_group conf d g ≡ true) × (is_of_group conf d h ≡ true) × (IsSameHost conf g h → ⊥)

  all_other : EachBefore Other all
  all_other =
      before_both (λ h. is_of_group conf d h ≡ true) (λ (g h : HostRec). IsSameHost conf g h → ⊥) all (all_pass (is_of_group conf d) now.hosts)
      (kept_before (λ (g h : HostRec). IsSameHost conf g h → ⊥) (is_of_group conf d) now.hosts s.state.host_keys)

  -- two hosts of the group with one VLAN and one address are one
  one_host : (g h : HostRec) → Contains all g → Contains all h → g.vid ≡ h.vid → g.mac.0 ≡ h.mac.0 → g ≡ h
  one_host g h cg ch vids macs = apart_or_one Other all all_other g h cg ch (λ o. o.2 (same g h o.0 o.1 vids macs)) (λ o. o.2 (same h g o.0 o.1 (sym vids) (sym macs)))
    where
      same : (a b : HostRec) → is_of_group conf d a ≡ true → is_of_group conf d b ≡ true → a.vid ≡ b.vid → a.mac.0 ≡ b.mac.0 → IsSameHost conf a b
      same a b oa ob v m = record {
        groups = eqb-true (group_of conf a.dp).0 (group_of conf d.id).0 oa ∙ sym (eqb-true (group_of conf b.dp).0 (group_of conf d.id).0 ob);
        vlans = v;
        macs = m;
      }

  abbrev is_host : ℕ → Mac → HostRec → Bool
  is_host vid mac h = h.vid == vid && is_same h.mac.0 mac.0

  host_found : (h : HostRec) → Contains all h → find (is_host h.vid h.mac) all ≡ Some h
  host_found h c =
      is_found (is_host h.vid h.mac) all h c (ap (λ b. b && is_same h.mac.0 h.mac.0) (eq-eqb h.vid h.vid refl) ∙ equal_bytes h.mac.0 h.mac.0 refl)
      (λ g cg is. let p = and_parts (g.vid == h.vid) (is_same g.mac.0 h.mac.0) is in one_host g h cg c (eqb-true g.vid h.vid p.0) (same_bytes g.mac.0 h.mac.0 p.1))

  port_found : (i : Port) → Contains d.ports i → port_with d.ports i.no ≡ Some i
  port_found i c = by_number (λ (q : Port). q.no) d.ports (datapath conf s.valid d s.is_dp).in_order i c

  vlan_found : (v : Vlan) → Contains conf.vlans v → vlan_with conf.vlans v.vid ≡ Some v
  vlan_found v c = by_number (λ (w : Vlan). w.vid) conf.vlans s.valid.vlans.in_order v c

  -- ---- the plan, unit by unit

  pub plan_is_units : plan conf now d ≡ flat_map (entries conf now d) (units_of conf now d)
  unfolding units_of
  plan_is_units =
      let f = entries conf now d in
      let ps = map (λ (i : Port). unit.Port i.no) d.ports in
      let vs = map (λ (v : Vlan). unit.Vlan v.vid) conf.vlans in
      let hs = map (λ (h : HostRec). unit.Host h.vid h.mac) all in
      let rs = map (λ (v : Vlan). unit.Route v.vid) conf.vlans in
      let of_ports : flat_map f ps ≡ flat_map (of_port conf now d) d.ports =
      flat_map-map f (λ (i : Port). unit.Port i.no) d.ports
      ∙ same_flat (λ (i : Port). f (unit.Port i.no)) (of_port conf now d) d.ports (λ i c. ap (λ o. option_map_or (of_port conf now d) o []) (port_found i c)) in
      let of_vlans : flat_map f vs ≡ flat_map (of_vlan conf now d) conf.vlans =
      flat_map-map f (λ (v : Vlan). unit.Vlan v.vid) conf.vlans
      ∙ same_flat (λ (v : Vlan). f (unit.Vlan v.vid)) (of_vlan conf now d) conf.vlans (λ v c. ap (λ o. option_map_or (of_vlan conf now d) o []) (vlan_found v c)) in
      let of_hosts : flat_map f hs ≡ flat_map (of_host conf now d) all =
      flat_map-map f (λ (h : HostRec). unit.Host h.vid h.mac) all
      ∙ same_flat (λ (h : HostRec). f (unit.Host h.vid h.mac)) (of_host conf now d) all (λ h c. ap (λ o. option_map_or (of_host conf now d) o []) (host_found h c)) in
      let of_all_routes : flat_map f rs ≡ flat_map (of_routes conf now d) conf.vlans =
      flat_map-map f (λ (v : Vlan). unit.Route v.vid) conf.vlans
      ∙ same_flat (λ (v : Vlan). f (unit.Route v.vid)) (of_routes conf now d) conf.vlans (λ v c. ap (λ o. option_map_or (of_routes conf now d) o []) (vlan_found v c)) in
      sym (ap (λ l. fixed conf d ++ l)
      (flat_map-append f ps (vs ++ (hs ++ rs)) ∙ ap (λ l. l ++ flat_map f (vs ++ (hs ++ rs))) of_ports
      ∙ ap (λ l. flat_map (of_port conf now d) d.ports ++ l)
      (flat_map-append f vs (hs ++ rs) ∙ ap (λ l. l ++ flat_map f (hs ++ rs)) of_vlans
      ∙ ap (λ l. flat_map (of_vlan conf now d) conf.vlans ++ l)
      (flat_map-append f hs rs ∙ ap (λ l. l ++ flat_map f rs) of_hosts ∙ ap (λ l. flat_map (of_host conf now d) all ++ l) of_all_routes))))

  -- ---- whose the entries of a unit are

  abbrev name : PlanUnit → Owner
  name unit.Dp = of_datapath
  name (unit.Port number) = interface number
  name (unit.Vlan vid) = vlan vid
  name (unit.Host vid mac) = host vid (mac_value mac)
  name (unit.Route vid) = routes vid

  -- the unit of a host has entries only where there is the host
  abbrev Stands : PlanUnit → Type 0
  Stands (unit.Host vid mac) = IsSixBytes mac.0
  Stands _ = Unit {0}

  -- an entry of a unit has the unit's name
  record IsOf (u : PlanUnit) (e : Entry) : Type 0 where
    named : owner e.key ≡ name u
    stands : Stands u

  no_member : {A : Type 0} (x : A) → Contains [] x → ⊥
  no_member x (k, lt, is) = omega (arith, lt)

  each_owned : (u : Owner) (es : List Entry) (e : Entry) → Owned u es → Contains es e → owner e.key ≡ u
  each_owned u es e all c = of_all (λ x. owner x.key ≡ u) es all e c

  is_of : (u : PlanUnit) (e : Entry) → Contains (entries conf now d u) e → IsOf u e
  is_of unit.Dp e c = record { named = each_owned of_datapath (fixed conf d) e (fixed_owned conf d) c; stands = tt }
  is_of (unit.Port number) e c = by (port_with d.ports number) refl c
    where
      by : (o : Option Port) → port_with d.ports number ≡ o → Contains (option_map_or (of_port conf now d) o []) e → IsOf (unit.Port number) e
      by None is c = absurd (no_member e c)
      by (Some i) is c =
          let number_is : i.no ≡ number = eqb-true i.no number (found (λ (q : Port). q.no == number) d.ports i is).passes in
          record { named = each_owned (interface i.no) (of_port conf now d i) e (port_owned conf now d i) c ∙ ap interface number_is; stands = tt }
  is_of (unit.Vlan vid) e c = by (vlan_with conf.vlans vid) refl c
    where
      by : (o : Option Vlan) → vlan_with conf.vlans vid ≡ o → Contains (option_map_or (of_vlan conf now d) o []) e → IsOf (unit.Vlan vid) e
      by None is c = absurd (no_member e c)
      by (Some v) is c =
          let vid_is : v.vid ≡ vid = eqb-true v.vid vid (found (λ (w : Vlan). w.vid == vid) conf.vlans v is).passes in
          record { named = each_owned (vlan v.vid) (of_vlan conf now d v) e (vlan_owned conf now d v) c ∙ ap vlan vid_is; stands = tt }
  is_of (unit.Host vid mac) e c = by (find (is_host vid mac) all) refl c
    where
      by : (o : Option HostRec) → find (is_host vid mac) all ≡ o → Contains (option_map_or (of_host conf now d) o []) e → IsOf (unit.Host vid mac) e
      by None is c = absurd (no_member e c)
      by (Some h) is c =
          let f = found (is_host vid mac) all h is in
          let p = and_parts (h.vid == vid) (is_same h.mac.0 mac.0) f.passes in
          let vids : h.vid ≡ vid = eqb-true h.vid vid p.0 in
          let macs : h.mac.0 ≡ mac.0 = same_bytes h.mac.0 mac.0 p.1 in
          let six : IsSixBytes h.mac.0 = all_contains (λ (g : HostRec). IsSixBytes g.mac.0) all (all_filter (λ (g : HostRec). IsSixBytes g.mac.0) (is_of_group conf d) now.hosts s.addresses.hosts) h f.within in
          record {
            named = each_owned (host h.vid (mac_value h.mac)) (of_host conf now d h) e (host_owned conf now d h) c ∙ (λ i. host (vids i) (mac_value (record { 0 = macs i })));
            stands = subst IsSixBytes macs six;
          }
  is_of (unit.Route vid) e c = by (vlan_with conf.vlans vid) refl c
    where
      by : (o : Option Vlan) → vlan_with conf.vlans vid ≡ o → Contains (option_map_or (of_routes conf now d) o []) e → IsOf (unit.Route vid) e
      by None is c = absurd (no_member e c)
      by (Some v) is c =
          let vid_is : v.vid ≡ vid = eqb-true v.vid vid (found (λ (w : Vlan). w.vid == vid) conf.vlans v is).passes in
          record { named = each_owned (routes v.vid) (of_routes conf now d v) e (routes_owned conf now d v) c ∙ ap routes vid_is; stands = tt }

  -- ---- units with one name are one

  one_vid : (m n : ℕ) → 0x1000 + m ≡ 0x1000 + n → m ≡ n
  one_vid m n same = omega (arith, same)

  one_name : (u w : PlanUnit) → Stands u → Stands w → name u ≡ name w → u ≡ w
  one_name unit.Dp unit.Dp su sw same = refl
  one_name (unit.Port m) (unit.Port n) su sw same = ap unit.Port (ap (λ (o : Owner). o.1.0) same)
  one_name (unit.Vlan m) (unit.Vlan n) su sw same = ap unit.Vlan (one_vid m n (ap (λ (o : Owner). o.1.0) same))
  one_name (unit.Host m a) (unit.Host n b) su sw same =
      let vids = one_vid m n (ap (λ (o : Owner). o.1.0) same) in
      let macs : a.0 ≡ b.0 = same_bytes a.0 b.0 (sym (same_address a b su sw) ∙ eq-eqb (mac_value a) (mac_value b) (ap (λ (o : Owner). o.1.1) same)) in
      λ i. unit.Host (vids i) (record { 0 = macs i })
  one_name (unit.Route m) (unit.Route n) su sw same = ap unit.Route (one_vid m n (ap (λ (o : Owner). o.1.0) same))
  one_name u w su sw same = absurd (omega (arith, ap (λ (o : Owner). o.0) same))

  pub no_key_in_common : (u w : PlanUnit) → (u ≡ w → ⊥) → (e f : Entry) → Contains (entries conf now d u) e → Contains (entries conf now d w) f → e.key ≡ f.key → ⊥
  no_key_in_common u w apart e f ce cf same =
      let a = is_of u e ce in
      let b = is_of w f cf in
      apart (one_name u w a.stands b.stands (sym a.named ∙ ap owner same ∙ b.named))
