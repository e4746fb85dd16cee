-- No two entries of an interface, of a host or of a VLAN have one key.
use Rattle.std.proofs.Common.{◌≡◌, ℕ, ◌+◌, ◌<◌, ◌==◌, Bool, true, false, cond, Option, Some, None, List, [], ◌∷◌, ◌++◌, length, map, filter, refl, sym, ap, ◌∙◌, arith, lit<}
use Rattle.std.specs.Prelude.{Contains, option_to_list}
use Rattle.std.specs.List.{AllByRecursion, filter_map, cons_option}
use Rattle.std.specs.Option.{option_map, option_map_or, option_and_then}
use Rattle.net_base.specs.declared.field.Field.{Field}
use Rattle.of_match.specs.declared.entry.Entry.{Entry}
use Rattle.of_match.specs.declared.entry.Key.{Key}
use Rattle.stack_paths.specs.Stack.{Stack}
use Rattle.stack_paths.specs.Chosen.{hop_of}
use Rattle.conf_types.specs.declared.datapath.Dp.{Dp}
use Rattle.conf_types.specs.declared.datapath.Port.{Port}
use Rattle.conf_types.specs.declared.state.HostRec.{HostRec}
use Rattle.conf_types.specs.declared.vlan.Vlan.{Vlan}
use Rattle.conf_types.specs.Configuration.{Configuration, vlan_with, port_with}
use Rattle.conf_types.specs.Lists.{EachBefore}
use Rattle.conf_types.specs.Membership.{is_stack, is_accepting}
use Rattle.conf_types.specs.State.{is_permanent}
use Rattle.conf_types.specs.Valid.{IsValid, IsPort}
use Rattle.plan_base.specs.Accepted.{HaveDistinctKeys}
use Rattle.plan_base.proofs.Each.{all_from, all_map, all_filter, all_filter_map, all_contains, before_from, before_append, before_of_append, before_map}
use Rattle.vlan_compile.specs.declared.flood.Flood.{Flood}
use Rattle.vlan_compile.specs.declared.flood.Flood.TheVariants.{Group, Unicast}
use Rattle.vlan_compile.specs.declared.flood.Ingress.{Ingress}
use Rattle.vlan_compile.specs.declared.flood.Ingress.TheVariants.{Any, At}
use Rattle.vlan_compile.specs.Vlans.{native_vlan, tagged_vlans, vlans_of}
use Rattle.vlan_compile.specs.Admissions.{lldp_heard, from_stack, without_tag, with_tag, from_stacks, from_edges, admissions}
use Rattle.vlan_compile.specs.Sources.{at_its_port, elsewhere, sources}
use Rattle.vlan_compile.specs.Misses.{miss, misses}
use Rattle.vlan_compile.specs.Destinations.{from_its_port, to_its_port, over_stack, at_port, destinations}
use Rattle.vlan_compile.specs.Floods.{flood_priority, flood_entry, is_apart, has_flooded, floods_to, floods}
use Rattle.vlan_compile.proofs.Valid.{always, is_datapath, vlan_is}
use Rattle.vlan_compile.proofs.Accepted.{all_if}

-- ---- pairs

before_if : {A : Type 0} (R : A → A → Type 0) (b : Bool) (xs : List A) → EachBefore R xs → EachBefore R (cond b xs [])
before_if R true xs all = all
before_if R false xs all = tt

before_filter : {A : Type 0} (R : A → A → Type 0) (p : A → Bool) (xs : List A) → EachBefore R xs → EachBefore R (filter p xs)
before_filter R p [] all = tt
before_filter {A = A} R p (x ∷ xs) all = kept (p x) (all_filter (R x) p xs all.0) (before_filter R p xs all.1)
  where
    kept : (b : Bool) → AllByRecursion (R x) (filter p xs) → EachBefore R (filter p xs) → EachBefore R (cond b (x ∷ filter p xs) (filter p xs))
    kept true h more = (h, more)
    kept false h more = more

before_filter_map : {A B : Type 0} (h : A → Option B) (R : A → A → Type 0) (S : B → B → Type 0) → ((x y : A) (a b : B) → R x y → h x ≡ Some a → h y ≡ Some b → S a b) → (xs : List A) → EachBefore R xs → EachBefore S (filter_map h xs)
before_filter_map h R S keeps [] all = tt
before_filter_map {A = A} {B = B} h R S keeps (x ∷ xs) all = added (h x) refl (before_filter_map h R S keeps xs all.1)
  where
    added : (o : Option B) → h x ≡ o → EachBefore S (filter_map h xs) → EachBefore S (cons_option o (filter_map h xs))
    added None e more = more
    added (Some a) e more =
        (all_filter_map h (S a) xs (all_from {P = R x} {Q = λ y. (b : B) → h y ≡ Some b → S a b} (λ y r b is. keeps x y a b r e is) xs all.0), more)

-- each of one list stands so to each of another
across : {A : Type 0} (R : A → A → Type 0) (P Q : A → Type 0) → ((x y : A) → P x → Q y → R x y) → (xs ys : List A) → AllByRecursion P xs → AllByRecursion Q ys → AllByRecursion (λ x. AllByRecursion (R x) ys) xs
across R P Q h xs ys ps qs = all_from {P = P} {Q = λ x. AllByRecursion (R x) ys} (λ x p. all_from {P = Q} {Q = R x} (λ y q. h x y p q) ys qs) xs ps

-- ---- keys

abbrev Differ : Entry → Entry → Type 0
Differ e f = e.key ≡ f.key → ⊥

by_priority : (e f : Entry) → (e.key.priority ≡ f.key.priority → ⊥) → Differ e f
by_priority e f ne same = ne (ap (λ (k : Key). k.priority) same)

by_length : (e f : Entry) → (length e.key.fields ≡ length f.key.fields → ⊥) → Differ e f
by_length e f ne same = ne (ap (λ (k : Key). length k.fields) same)

first_of_fields : (e f : Entry) (a c : Field) (more less : List Field) → e.key.fields ≡ a ∷ more → f.key.fields ≡ c ∷ less → (a.value ≡ c.value → ⊥) → Differ e f
first_of_fields e f a c more less p q ne same =
    let lists : a ∷ more ≡ c ∷ less = sym p ∙ ap (λ (k : Key). k.fields) same ∙ q in
    let heads : a ≡ c = cc in
    ne (ap (λ (x : Field). x.value) heads)

second_of_fields : (e f : Entry) (a b c d : Field) → e.key.fields ≡ a ∷ b ∷ [] → f.key.fields ≡ c ∷ d ∷ [] → (b.value ≡ d.value → ⊥) → Differ e f
second_of_fields e f a b c d p q ne same =
    let lists : a ∷ b ∷ [] ≡ c ∷ d ∷ [] = sym p ∙ ap (λ (k : Key). k.fields) same ∙ q in
    let seconds : b ≡ d = cc in
    ne (ap (λ (x : Field). x.value) seconds)

-- ---- of an interface

module _ (conf : Configuration) (valid : IsValid conf) (d : Dp) (of_conf : Contains conf.dps d) (i : Port) (of_dp : Contains d.ports i) where
  abbrev Apart : Vlan → Vlan → Type 0
  Apart v w = v.vid ≡ w.vid → ⊥

  -- the VLANs of the interface have different identifiers
  tagged_apart : (vids : List ℕ) → EachBefore (λ (x y : ℕ). x ≡ y → ⊥) vids → EachBefore Apart (filter_map (vlan_with conf.vlans) vids)
  tagged_apart vids once =
      before_filter_map (vlan_with conf.vlans) (λ (x y : ℕ). x ≡ y → ⊥) Apart
      (λ x y v w ne ev ew same. ne (sym (vlan_is conf valid x v ev) ∙ same ∙ vlan_is conf valid y w ew)) vids once

  all_apart : (native : Option ℕ) → EachBefore (λ (x y : ℕ). x ≡ y → ⊥) (option_map_or (λ vid. vid ∷ i.tagged) native i.tagged) → EachBefore Apart (option_to_list (option_and_then (vlan_with conf.vlans) native) ++ tagged_vlans conf i)
  all_apart None once = tagged_apart i.tagged once
  all_apart (Some n) once = found (vlan_with conf.vlans n) refl
    where
      found : (o : Option Vlan) → vlan_with conf.vlans n ≡ o → EachBefore Apart (option_to_list o ++ tagged_vlans conf i)
      found None e = tagged_apart i.tagged once.1
      found (Some v) e = (
        all_filter_map (vlan_with conf.vlans) (Apart v) i.tagged
            (all_from {P = λ (m : ℕ). n ≡ m → ⊥} {Q = λ (m : ℕ). (w : Vlan) → vlan_with conf.vlans m ≡ Some w → Apart v w}
            (λ m ne w ew same. ne (sym (vlan_is conf valid n v e) ∙ same ∙ vlan_is conf valid m w ew)) i.tagged once.0),
        tagged_apart i.tagged once.1,
      )

  vlans_apart : EachBefore Apart (vlans_of conf i)
  vlans_apart = all_apart i.native (all_contains (IsPort conf) d.ports (is_datapath conf valid d of_conf).ports i of_dp).once

  pub misses_differ : (hosts : List HostRec) → HaveDistinctKeys (misses conf d i hosts)
  misses_differ hosts =
      before_if Differ (is_accepting i) (map (miss conf hosts d i) (vlans_of conf i))
      (before_map (miss conf hosts d i) Differ (vlans_of conf i)
      (before_from {R = Apart} {S = λ (v w : Vlan). Differ (miss conf hosts d i v) (miss conf hosts d i w)}
      (λ v w ne. second_of_fields (miss conf hosts d i v) (miss conf hosts d i w) _ _ _ _ refl refl (λ same. ne (omega (arith, same)))) (vlans_of conf i) vlans_apart))

  stacks_differ : HaveDistinctKeys (from_stacks conf i)
  stacks_differ =
      before_if Differ (is_stack i) (lldp_heard i ∷ map (from_stack i) conf.vlans) (
        all_map (from_stack i) (Differ (lldp_heard i)) conf.vlans (always {P = λ (v : Vlan). Differ (lldp_heard i) (from_stack i v)} (λ v. by_length (lldp_heard i) (from_stack i v) (λ same. omega (arith, same))) conf.vlans),
        before_map (from_stack i) Differ conf.vlans
            (before_from {R = λ (v w : Vlan). v.vid < w.vid} {S = λ (v w : Vlan). Differ (from_stack i v) (from_stack i w)}
            (λ v w lt. second_of_fields (from_stack i v) (from_stack i w) _ _ _ _ refl refl (λ same. omega (arith, same, lt))) conf.vlans valid.vlans.in_order),
      )

  -- without a tag, and with one
  native_differs : (o : Option Vlan) → AllByRecursion (λ e. AllByRecursion (Differ e) (map (with_tag d i) (tagged_vlans conf i))) (option_to_list (option_map (without_tag d i) o))
  native_differs None = tt
  native_differs (Some v) = (
    all_map (with_tag d i) (Differ (without_tag d i v)) (tagged_vlans conf i)
        (always {P = λ (w : Vlan). Differ (without_tag d i v) (with_tag d i w)} (λ w. second_of_fields (without_tag d i v) (with_tag d i w) _ _ _ _ refl refl (λ same. omega (arith, same))) (tagged_vlans conf i)),
    tt,
  )

  alone : (o : Option Entry) → HaveDistinctKeys (option_to_list o)
  alone None = tt
  alone (Some e) = (tt, tt)

  edges_differ : HaveDistinctKeys (from_edges conf d i)
  edges_differ =
      before_if Differ (is_accepting i) (option_to_list (option_map (without_tag d i) (native_vlan conf i)) ++ map (with_tag d i) (tagged_vlans conf i))
      (before_append Differ (option_to_list (option_map (without_tag d i) (native_vlan conf i))) (map (with_tag d i) (tagged_vlans conf i))
      (alone (option_map (without_tag d i) (native_vlan conf i)))
      (before_map (with_tag d i) Differ (tagged_vlans conf i)
      (before_from {R = Apart} {S = λ (v w : Vlan). Differ (with_tag d i v) (with_tag d i w)}
      (λ v w ne. second_of_fields (with_tag d i v) (with_tag d i w) _ _ _ _ refl refl (λ same. ne (omega (arith, same)))) (tagged_vlans conf i)
      (before_of_append Apart (option_to_list (native_vlan conf i)) (tagged_vlans conf i) vlans_apart).1))
      (native_differs (native_vlan conf i)))

  abbrev HasPriority : ℕ → Entry → Type 0
  HasPriority n e = e.key.priority ≡ n

  stacks_at_40 : AllByRecursion (HasPriority 40) (from_stacks conf i)
  stacks_at_40 = all_if (HasPriority 40) (is_stack i) (lldp_heard i ∷ map (from_stack i) conf.vlans) (refl, all_map (from_stack i) (HasPriority 40) conf.vlans (always {P = λ (v : Vlan). HasPriority 40 (from_stack i v)} (λ v. refl) conf.vlans))

  native_at_20 : (o : Option Vlan) → AllByRecursion (HasPriority 20) (option_to_list (option_map (without_tag d i) o) ++ map (with_tag d i) (tagged_vlans conf i))
  native_at_20 None = all_map (with_tag d i) (HasPriority 20) (tagged_vlans conf i) (always {P = λ (v : Vlan). HasPriority 20 (with_tag d i v)} (λ v. refl) (tagged_vlans conf i))
  native_at_20 (Some v) = (refl, all_map (with_tag d i) (HasPriority 20) (tagged_vlans conf i) (always {P = λ (w : Vlan). HasPriority 20 (with_tag d i w)} (λ w. refl) (tagged_vlans conf i)))

  pub admissions_differ : HaveDistinctKeys (admissions conf d i)
  admissions_differ =
      before_append Differ (from_stacks conf i) (from_edges conf d i) stacks_differ edges_differ
      (across Differ (HasPriority 40) (HasPriority 20) (λ e f p q. by_priority e f (λ same. omega (arith, same, p, q))) (from_stacks conf i) (from_edges conf d i) stacks_at_40
      (all_if (HasPriority 20) (is_accepting i) _ (native_at_20 (native_vlan conf i))))

-- ---- of a host

pub sources_differ : (conf : Configuration) (d : Dp) (h : HostRec) (moment : ℕ) → HaveDistinctKeys (sources conf d h moment)
sources_differ conf d h moment =
    before_append Differ (cond (h.dp.0 == d.id.0) (at_its_port conf moment h ∷ []) []) (cond (is_permanent conf h) (elsewhere h ∷ []) [])
    (before_if Differ (h.dp.0 == d.id.0) (at_its_port conf moment h ∷ []) (tt, tt)) (before_if Differ (is_permanent conf h) (elsewhere h ∷ []) (tt, tt))
    (all_if (λ (e : Entry). AllByRecursion (Differ e) (cond (is_permanent conf h) (elsewhere h ∷ []) [])) (h.dp.0 == d.id.0) (at_its_port conf moment h ∷ [])
    (all_if (Differ (at_its_port conf moment h)) (is_permanent conf h) (elsewhere h ∷ []) (by_priority (at_its_port conf moment h) (elsewhere h) (λ same. omega (arith, same)), tt), tt))

pub destinations_differ : (d : Dp) (h : HostRec) (stack : Stack) → HaveDistinctKeys (destinations d h stack)
destinations_differ d h stack = one (h.dp.0 == d.id.0) (port_with d.ports h.port) (option_map (over_stack h) (hop_of stack d.id h.dp))
  where
    one : (here : Bool) (o : Option Port) (e : Option Entry) → HaveDistinctKeys (cond here (option_map_or (at_port d h) o []) (option_to_list e))
    one true None e = tt
    one true (Some q) e = ((by_priority (from_its_port d h q) (to_its_port d h q) (λ same. omega (arith, same)), tt), (tt, tt))
    one false o None = tt
    one false o (Some e) = (tt, tt)

-- ---- of a VLAN

module _ (d : Dp) (in_order : EachBefore (λ (p q : Port). p.no < q.no) d.ports) (v : Vlan) (stack : Stack) where
  abbrev at : Flood → Port → Entry
  at flood i = flood_entry stack d v flood (At i.no)

  at_differ : (flood : Flood) (p q : Port) → p.no < q.no → Differ (at flood p) (at flood q)
  at_differ flood p q lt = first_of_fields (at flood p) (at flood q) _ _ _ _ refl refl (λ same. omega (arith, same, lt))

  any_differs : (flood : Flood) (p : Port) → Differ (flood_entry stack d v flood Any) (at flood p)
  any_differs Group p = by_priority (flood_entry stack d v Group Any) (at Group p) (λ same. omega (arith, same))
  any_differs Unicast p = by_priority (flood_entry stack d v Unicast Any) (at Unicast p) (λ same. omega (arith, same))

  one_flood : (flood : Flood) → HaveDistinctKeys (floods_to stack d v flood)
  one_flood flood =
      before_append Differ (cond (has_flooded stack d v) (flood_entry stack d v flood Any ∷ []) []) (map (at flood) (filter (is_apart d v) d.ports))
      (before_if Differ (has_flooded stack d v) (flood_entry stack d v flood Any ∷ []) (tt, tt))
      (before_map (at flood) Differ (filter (is_apart d v) d.ports)
      (before_from {R = λ (p q : Port). p.no < q.no} {S = λ (p q : Port). Differ (at flood p) (at flood q)} (at_differ flood) (filter (is_apart d v) d.ports)
      (before_filter (λ (p q : Port). p.no < q.no) (is_apart d v) d.ports in_order)))
      (all_if (λ (e : Entry). AllByRecursion (Differ e) (map (at flood) (filter (is_apart d v) d.ports))) (has_flooded stack d v) (flood_entry stack d v flood Any ∷ []) (
        all_map (at flood) (Differ (flood_entry stack d v flood Any)) (filter (is_apart d v) d.ports)
            (always {P = λ (p : Port). Differ (flood_entry stack d v flood Any) (at flood p)} (any_differs flood) (filter (is_apart d v) d.ports)),
        tt,
      ))

  -- a fact of the priority of each
  each_priority : (P : ℕ → Type 0) (flood : Flood) → ((from : Ingress) → P (flood_priority flood from)) → AllByRecursion (λ (e : Entry). P e.key.priority) (floods_to stack d v flood)
  each_priority P flood h = both (has_flooded stack d v)
    where
      rest : AllByRecursion (λ (e : Entry). P e.key.priority) (map (at flood) (filter (is_apart d v) d.ports))
      rest = all_map (at flood) (λ (e : Entry). P e.key.priority) (filter (is_apart d v) d.ports) (always {P = λ (p : Port). P (flood_priority flood (At p.no))} (λ p. h (At p.no)) (filter (is_apart d v) d.ports))

      both : (b : Bool) → AllByRecursion (λ (e : Entry). P e.key.priority) (cond b (flood_entry stack d v flood Any ∷ []) [] ++ map (at flood) (filter (is_apart d v) d.ports))
      both true = (h Any, rest)
      both false = rest

  low : (from : Ingress) → flood_priority Unicast from < 25
  low Any = lit< tt
  low (At ingress) = lit< tt

  high : (from : Ingress) → 25 < flood_priority Group from
  high Any = lit< tt
  high (At ingress) = lit< tt

  pub floods_differ : HaveDistinctKeys (floods d v stack)
  floods_differ =
      before_append Differ (floods_to stack d v Unicast) (floods_to stack d v Group) (one_flood Unicast) (one_flood Group)
      (across Differ (λ (e : Entry). e.key.priority < 25) (λ (e : Entry). 25 < e.key.priority) (λ e f p q. by_priority e f (λ same. omega (arith, same, p, q))) (floods_to stack d v Unicast) (floods_to stack d v Group)
      (each_priority (λ n. n < 25) Unicast low) (each_priority (λ n. 25 < n) Group high))

-- ---- as the laws say it

pub floods_differ_in : (conf : Configuration) → IsValid conf → (d : Dp) → Contains conf.dps d → (v : Vlan) → (stack : Stack) → HaveDistinctKeys (floods d v stack)
floods_differ_in conf valid d of_conf v stack = floods_differ d (is_datapath conf valid d of_conf).in_order v stack

pub ruleset key_laws = (admissions_differ, misses_differ, sources_differ, destinations_differ, floods_differ_in)
