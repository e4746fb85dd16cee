-- Hosts that stand as they did, by their keys: as many at a port, in a VLAN, and in all.
use Rattle.std.proofs.Common.{◌≡◌, ℕ, suc, Bool, true, false, cond, ◌==◌, ◌&&◌, ◌||◌, if◌then◌else◌, List, [], ◌∷◌, filter, length, Option, Some, None, IsPermutation, inl, inr, refl, sym, ap, ◌∙◌, true≢false, eqb-true, eq-eqb}
use Rattle.std.specs.Prelude.{◌⊎◌, Contains, count_by}
use Rattle.std.specs.List.{find, filter_map, cons_option, list_any}
use Rattle.std.specs.Option.{option_map}
use Rattle.std.proofs.lemmas.Bool.{and_parts, and_from, cases_eq}
use Rattle.std.proofs.lemmas.List.Sorted.{length_permutation, list_any-IsPermutation}
use Rattle.std.proofs.lemmas.List.Sums.{length-filter}
use Rattle.std.proofs.lemmas.Option.{same_Some, none-some}
use Rattle.net_base.specs.declared.address.Mac.{Mac}
use Rattle.net_base.specs.declared.numbers.DpId.{DpId}
use Rattle.conf_types.specs.declared.state.HostRec.{HostRec}
use Rattle.conf_types.specs.Changes.{host_by, Standing, standing, standing_of}
use Rattle.conf_types.specs.Configuration.{Configuration}
use Rattle.conf_types.specs.Groups.{group_of}
use Rattle.conf_types.specs.Lists.{EachBefore, is_same}
use Rattle.conf_types.specs.State.{State, IsSameHost, is_host_in}
use Rattle.law_runs.specs.Members.{of_all}
use Rattle.plan_units.specs.Agrees.{same_bytes, equal_bytes}
use Rattle.plan_units.specs.Facts.{found, none_found, apart_or_one}
use Rattle.law_units.proofs.Shuffled.{shuffled}

-- ---- what can't differ is equal

pub stable_bool : (a b : Bool) → ((a ≡ b → ⊥) → ⊥) → a ≡ b
stable_bool true true h = refl
stable_bool false false h = refl
stable_bool true false h = absurd (h true≢false)
stable_bool false true h = absurd (h (λ e. true≢false (sym e)))

one_bool : (a b : Bool) → (a ≡ b) ⊎ (a ≡ b → ⊥)
one_bool true true = inl refl
one_bool false false = inl refl
one_bool true false = inr true≢false
one_bool false true = inr (λ e. true≢false (sym e))

one_standing : (a b : Standing) → (a ≡ b) ⊎ (a ≡ b → ⊥)
one_standing a b = elim (cases_eq a.dp.0 b.dp.0) [
  | inl dp ↦ elim (cases_eq a.port b.port) [
    | inl port ↦ elim (one_bool a.is_fresh b.is_fresh) [
      | inl fresh ↦ inl (λ i. record { dp = record { 0 = dp i }; port = port i; is_fresh = fresh i })
      | inr other ↦ inr (λ e. other (ap (λ (s : Standing). s.is_fresh) e))
    ]
    | inr other ↦ inr (λ e. other (ap (λ (s : Standing). s.port) e))
  ]
  | inr other ↦ inr (λ e. other (ap (λ (s : Standing). s.dp.0) e))
]

pub stable_standing : (a b : Option Standing) → ((a ≡ b → ⊥) → ⊥) → a ≡ b
stable_standing None None h = refl
stable_standing None (Some b) h = absurd (h (λ e. none-some b e))
stable_standing (Some a) None h = absurd (h (λ e. none-some a (sym e)))
stable_standing (Some a) (Some b) h = elim (one_standing a b) [ inl e ↦ ap Some e | inr other ↦ absurd (h (λ e. other (same_Some a b e))) ]

-- ---- one by its key

pub is_found : {A : Type 0} (test : A → Bool) (xs : List A) (x : A) → Contains xs x → test x ≡ true → ((y : A) → Contains xs y → test y ≡ true → y ≡ x) → find test xs ≡ Some x
is_found {A = A} test xs x c passes one = by (find test xs) refl
  where
    by : (o : Option A) → find test xs ≡ o → find test xs ≡ Some x
    by None is = absurd (true≢false (sym passes ∙ of_all (λ y. test y ≡ false) xs (none_found test xs is) x c))
    by (Some y) is = let f = found test xs y is in is ∙ ap Some (one y f.within f.passes)

module _ (conf : Configuration) where
  turn : (a b : HostRec) → IsSameHost conf a b → IsSameHost conf b a
  turn a b s = record { groups = sym s.groups; vlans = sym s.vlans; macs = sym s.macs }

  join : (a b c : HostRec) → IsSameHost conf a b → IsSameHost conf b c → IsSameHost conf a c
  join a b c s t = record { groups = s.groups ∙ t.groups; vlans = s.vlans ∙ t.vlans; macs = s.macs ∙ t.macs }

  abbrev has_key : DpId → ℕ → Mac → HostRec → Bool
  has_key group vid mac h = is_host_in conf group vid h && is_same h.mac.0 mac.0

  pub record HasKey (group : DpId) (vid : ℕ) (mac : Mac) (h : HostRec) : Type 0 where
    pub groups : (group_of conf h.dp).0 ≡ group.0
    pub vids : h.vid ≡ vid
    pub macs : h.mac.0 ≡ mac.0

  pub keyed : (group : DpId) (vid : ℕ) (mac : Mac) (h : HostRec) → has_key group vid mac h ≡ true → HasKey group vid mac h
  keyed group vid mac h is =
      let p = and_parts (is_host_in conf group vid h) (is_same h.mac.0 mac.0) is in
      let q = and_parts ((group_of conf h.dp).0 == group.0) (h.vid == vid) p.0 in
      record { groups = eqb-true (group_of conf h.dp).0 group.0 q.0; vids = eqb-true h.vid vid q.1; macs = same_bytes h.mac.0 mac.0 p.1 }

  pub own : (hosts : List HostRec) → EachBefore (λ a b. IsSameHost conf a b → ⊥) hosts → (h : HostRec) → Contains hosts h → host_by conf hosts (group_of conf h.dp) h.vid h.mac ≡ Some h
  own hosts apart h c =
      is_found (has_key (group_of conf h.dp) h.vid h.mac) hosts h c
      (and_from _ _ (and_from _ _ (eq-eqb (group_of conf h.dp).0 (group_of conf h.dp).0 refl) (eq-eqb h.vid h.vid refl)) (equal_bytes h.mac.0 h.mac.0 refl))
      (λ y cy is.
      let k = keyed (group_of conf h.dp) h.vid h.mac y is in
      let same : IsSameHost conf y h = record { groups = k.groups; vlans = k.vids; macs = k.macs } in
      apart_or_one (λ (a b : HostRec). IsSameHost conf a b → ⊥) hosts apart y h cy c (λ ne. ne same) (λ ne. ne (turn y h same)))

  -- ---- in two states

  -- the hosts that pass a test, with a number of each
  abbrev pub chosen : (HostRec → Bool) → (HostRec → ℕ) → HostRec → Option ℕ
  chosen p g h = if p h then Some (g h) else None

  pub chosen_length : (p : HostRec → Bool) (g : HostRec → ℕ) (hosts : List HostRec) → length (filter_map (chosen p g) hosts) ≡ length (filter p hosts)
  chosen_length p g [] = refl
  chosen_length p g (h ∷ hosts) = by (p h) (chosen_length p g hosts)
    where
      by : (b : Bool) → length (filter_map (chosen p g) hosts) ≡ length (filter p hosts) → length (cons_option (if b then Some (g h) else None) (filter_map (chosen p g) hosts)) ≡ length (cond b (h ∷ filter p hosts) (filter p hosts))
      by true more = ap (λ n. suc n) more
      by false more = more

  pub chosen_any : (p : HostRec → Bool) (g : HostRec → ℕ) (n : ℕ) (hosts : List HostRec) → list_any (λ m. m == n) (filter_map (chosen p g) hosts) ≡ list_any (λ h. p h && g h == n) hosts
  chosen_any p g n [] = refl
  chosen_any p g n (h ∷ hosts) = by (p h) (chosen_any p g n hosts)
    where
      by : (b : Bool) → list_any (λ m. m == n) (filter_map (chosen p g) hosts) ≡ list_any (λ x. p x && g x == n) hosts → list_any (λ m. m == n) (cons_option (if b then Some (g h) else None) (filter_map (chosen p g) hosts)) ≡ ((b && g h == n) || list_any (λ x. p x && g x == n) hosts)
      by true more = ap (λ r. (g h == n) || r) more
      by false more = more

  abbrev AreApart : List HostRec → Type 0
  AreApart hosts = EachBefore (λ a b. IsSameHost conf a b → ⊥) hosts

  -- a test, and a number, that read nothing but the key and the place
  pub record ReadsPlace (p : HostRec → Bool) (g : HostRec → ℕ) : Type 0 where
    pub test : (a b : HostRec) → IsSameHost conf a b → a.dp ≡ b.dp → a.port ≡ b.port → p a ≡ p b
    pub number : (a b : HostRec) → IsSameHost conf a b → a.dp ≡ b.dp → a.port ≡ b.port → g a ≡ g b

  module _ (old new : State) (old_apart : AreApart old.hosts) (new_apart : AreApart new.hosts) where
    abbrev pub StandsStill : HostRec → Type 0
    StandsStill h = standing_of conf old (group_of conf h.dp) h.vid h.mac ≡ standing_of conf new (group_of conf h.dp) h.vid h.mac

    module _ (p : HostRec → Bool) (g : HostRec → ℕ) (reads : ReadsPlace p g)
        (was : (h : HostRec) → Contains old.hosts h → p h ≡ true → StandsStill h) (is_now : (h : HostRec) → Contains new.hosts h → p h ≡ true → StandsStill h) where
      passes : (h : HostRec) (n : ℕ) (b : Bool) → p h ≡ b → (if b then Some (g h) else None) ≡ Some n → p h ≡ true
      passes h n true is e = is
      passes h n false is e = absurd (none-some n e)

      other : (s t : State) → AreApart s.hosts → (h : HostRec) (n : ℕ) → Contains s.hosts h → chosen p g h ≡ Some n
          → standing_of conf s (group_of conf h.dp) h.vid h.mac ≡ standing_of conf t (group_of conf h.dp) h.vid h.mac → (y : HostRec) × Contains t.hosts y × IsSameHost conf h y × (chosen p g y ≡ Some n)
      other s t apart h n c is still = by (host_by conf t.hosts (group_of conf h.dp) h.vid h.mac) refl (sym still ∙ ap (option_map (standing conf s)) (own s.hosts apart h c))
        where
          by : (o : Option HostRec) → host_by conf t.hosts (group_of conf h.dp) h.vid h.mac ≡ o → option_map (standing conf t) o ≡ Some (standing conf s h) → (y : HostRec) × Contains t.hosts y × IsSameHost conf h y × (chosen p g y ≡ Some n)
          by None e stand = absurd (none-some _ stand)
          by (Some y) e stand =
              let f = found (has_key (group_of conf h.dp) h.vid h.mac) t.hosts y e in
              let k = keyed (group_of conf h.dp) h.vid h.mac y f.passes in
              let same : IsSameHost conf y h = record { groups = k.groups; vlans = k.vids; macs = k.macs } in
              let place : standing conf t y ≡ standing conf s h = same_Some (standing conf t y) (standing conf s h) stand in
              let dps : y.dp ≡ h.dp = ap (λ (x : Standing). x.dp) place in
              let ports : y.port ≡ h.port = ap (λ (x : Standing). x.port) place in
              let tests : p y ≡ p h = reads.test y h same dps ports in
              let numbers : g y ≡ g h = reads.number y h same dps ports in
              (y, f.within, turn y h same, (λ i. if tests i then Some (numbers i) else None) ∙ is)

      pub same_chosen : IsPermutation (filter_map (chosen p g) old.hosts) (filter_map (chosen p g) new.hosts)
      same_chosen =
          shuffled (chosen p g) (IsSameHost conf) turn join old.hosts new.hosts old_apart new_apart
          (λ h n c is. other old new old_apart h n c is (was h c (passes h n (p h) refl is)))
          (λ h n c is. other new old new_apart h n c is (sym (is_now h c (passes h n (p h) refl is))))

      pub same_length : length (filter p old.hosts) ≡ length (filter p new.hosts)
      same_length = sym (chosen_length p g old.hosts) ∙ sym (length_permutation (filter_map (chosen p g) old.hosts) (filter_map (chosen p g) new.hosts) same_chosen) ∙ chosen_length p g new.hosts

      pub same_count : count_by p old.hosts ≡ count_by p new.hosts
      same_count = sym (length-filter p old.hosts) ∙ same_length ∙ length-filter p new.hosts

      pub same_any : (n : ℕ) → list_any (λ h. p h && g h == n) old.hosts ≡ list_any (λ h. p h && g h == n) new.hosts
      same_any n = sym (chosen_any p g n old.hosts) ∙ list_any-IsPermutation (λ m. m == n) (filter_map (chosen p g) old.hosts) (filter_map (chosen p g) new.hosts) same_chosen ∙ chosen_any p g n new.hosts
