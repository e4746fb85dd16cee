-- The limits on datapaths, VLANs, interfaces, mirrors and members, by pairs of numbers.
use Rattle.std.specs.Prelude.{◌≡◌, ◌⊎◌, ℕ, ◌==◌, ◌&&◌, ◌||◌, Bool, true, false, List, length, Option, Some, None, Contains, is_some, sum_by, count_by, if◌then◌else◌}
use Rattle.std.specs.List.{find}
use Rattle.std.specs.Option.{option_map_or, option_and_then}
use Rattle.std.proofs.Common.{refl, sym, ap, ◌∙◌, subst, inl, inr, true≢false, eqb-true, eq-eqb}
use Rattle.std.proofs.lemmas.Bool.{and_parts, and_from, or_cases, or_left, or_right}
use Rattle.conf_types.specs.declared.datapath.Dp.{Dp}
use Rattle.conf_types.specs.declared.datapath.Port.{Port}
use Rattle.conf_types.specs.declared.datapath.Member.TheVariants.{Native, Tagged, Stack}
use Rattle.conf_types.specs.declared.datapath.Member.TheVariants as member_case
use Rattle.conf_types.specs.declared.vlan.Router.{Router}
use Rattle.conf_types.specs.declared.vlan.Vlan.{Vlan}
use Rattle.conf_types.specs.Configuration.{Configuration, port_with, port_at, vlan_with}
use Rattle.conf_types.specs.Lists.{EachBefore, AreDistinct}
use Rattle.conf_types.specs.Membership.{is_edge, is_stack, is_native_in, is_tagged_in, is_edge_member, member_of, member, is_mirror_of, is_mirrored}
use Rattle.conf_types.specs.Valid.{is_special, members_at}
use Rattle.law_checks.proofs.Members.{IsIn, of_all, all_by, found, finds, two_of, some_of, any_by, among, is_one_of}
use Rattle.law_rules.specs.Counted.{IsNumberOf}
use Rattle.law_rules.specs.Limits.{AreTold, IsDpId, IsVid, IsPortOf, Mirrors, IsSpecial, IsMember}
use Rattle.law_rules.proofs.Counts.{contains, is_in, by_list, same_number, number_of_keys, number_passing, number_of_pairs}

-- ---- what is found by its number

pub find_one : {A : Type 0} (key : A → ℕ) (xs : List A) (x : A) (n : ℕ) → EachBefore (λ x y. key x ≡ key y → ⊥) xs → IsIn xs x → key x ≡ n → find (λ y. key y == n) xs ≡ Some x
find_one key xs x n differ i is =
    let y = finds (λ y. key y == n) xs x i (eq-eqb (key x) n is) in
    let f = found (λ y. key y == n) xs y.0 y.1 in
    let key_is = eqb-true (key y.0) n f.1 in
    let same : x ≡ y.0 = elim (two_of (λ x y. key x ≡ key y → ⊥) xs differ x y.0 i f.0) [
      | inl e ↦ e
      | inr two ↦ absurd (elim two [ inl apart ↦ apart (is ∙ sym key_is) | inr apart ↦ apart (key_is ∙ sym is) ])
    ] in
    y.1 ∙ ap Some (sym same)

pub found_one : {A : Type 0} (key : A → ℕ) (xs : List A) (x : A) (n : ℕ) → find (λ y. key y == n) xs ≡ Some x → IsIn xs x × (key x ≡ n)
found_one key xs x n is = let f = found (λ y. key y == n) xs x is in (f.0, eqb-true (key x) n f.1)

module _ (conf : Configuration) (told : AreTold conf) where
  pub dp_ids : IsNumberOf (IsDpId conf) (length conf.dps)
  dp_ids = same_number _ (IsDpId conf) (length conf.dps) (λ n p. (p.0, contains conf.dps p.0 p.1, p.2)) (λ n p. (p.0, is_in conf.dps p.0 p.1, p.2)) (number_of_keys (λ (d : Dp). d.id.0) conf.dps told.dps)

  pub vids : IsNumberOf (IsVid conf) (length conf.vlans)
  vids = same_number _ (IsVid conf) (length conf.vlans) (λ n p. (p.0, contains conf.vlans p.0 p.1, p.2)) (λ n p. (p.0, is_in conf.vlans p.0 p.1, p.2)) (number_of_keys (λ (v : Vlan). v.vid) conf.vlans told.vlans)

  pub router_vids : (r : Router) → Contains conf.routers r → IsNumberOf (Contains r.vlans) (length r.vlans)
  router_vids r c = by_list (Contains r.vlans) r.vlans (of_all (λ (r : Router). AreDistinct r.vlans) conf.routers told.routers r (is_in conf.routers r c)) (λ n i. contains r.vlans n i) (λ n c. is_in r.vlans n c)

  module _ (d : Dp) (c : Contains conf.dps d) where
    pub ports_differ : EachBefore (λ (p q : Port). p.no ≡ q.no → ⊥) d.ports
    ports_differ = of_all (λ (d : Dp). EachBefore (λ (p q : Port). p.no ≡ q.no → ⊥) d.ports) conf.dps told.ports d (is_in conf.dps d c)

    pub port_numbers : IsNumberOf (IsPortOf d) (length d.ports)
    port_numbers = same_number _ (IsPortOf d) (length d.ports) (λ n p. (p.0, contains d.ports p.0 p.1, p.2)) (λ n p. (p.0, is_in d.ports p.0 p.1, p.2)) (number_of_keys (λ (p : Port). p.no) d.ports ports_differ)

    -- ---- mirrors

    pub mirror_numbers : (number : ℕ) → IsNumberOf (Mirrors d number) (count_by (λ m. is_mirror_of m number) d.ports)
    mirror_numbers number =
        same_number _ (Mirrors d number) (count_by (λ m. is_mirror_of m number) d.ports)
        (λ n p. (p.0, contains d.ports p.0 p.1, p.2, contains p.0.mirror number (is_one_of p.0.mirror number p.3)))
        (λ n p. (p.0, is_in d.ports p.0 p.1, p.2, among p.0.mirror number (is_in p.0.mirror number p.3)))
        (number_passing (λ (p : Port). p.no) (λ m. is_mirror_of m number) d.ports ports_differ)

    mirrors_it : (n : ℕ) → is_mirrored d n ≡ true → (m : ℕ) × Mirrors d n m
    mirrors_it n is = let s = some_of (λ m. is_mirror_of m n) d.ports is in (s.0.no, (s.0, contains d.ports s.0 s.1, refl, contains s.0.mirror n (is_one_of s.0.mirror n s.2)))

    is_special_by : (p : Port) → ((p.hairpin || is_mirrored d p.no) ≡ true) → (p.hairpin ≡ true) ⊎ ((m : ℕ) × Mirrors d p.no m)
    is_special_by p is = elim (or_cases p.hairpin (is_mirrored d p.no) is) [ inl h ↦ inl h | inr m ↦ inr (mirrors_it p.no m) ]

    special_by : (p : Port) → (p.hairpin ≡ true) ⊎ ((m : ℕ) × Mirrors d p.no m) → (p.hairpin || is_mirrored d p.no) ≡ true
    special_by p (inl h) = or_left p.hairpin (is_mirrored d p.no) h
    special_by p (inr m) = or_right p.hairpin (is_mirrored d p.no) (any_by (λ m. is_mirror_of m p.no) d.ports m.1.0 (is_in d.ports m.1.0 m.1.1) (among m.1.0.mirror p.no (is_in m.1.0.mirror p.no m.1.3)))

    pub special_numbers : IsNumberOf (IsSpecial d) (count_by (is_special d) d.ports)
    special_numbers =
        same_number _ (IsSpecial d) (count_by (is_special d) d.ports)
        (λ n p. let parts = and_parts (is_edge p.0) (p.0.hairpin || is_mirrored d p.0.no) p.3 in (p.0, contains d.ports p.0 p.1, p.2, parts.0, subst (λ k. (p.0.hairpin ≡ true) ⊎ ((m : ℕ) × Mirrors d k m)) p.2 (is_special_by p.0 parts.1)))
        (λ n p. (p.0, is_in d.ports p.0 p.1, p.2, and_from (is_edge p.0) (p.0.hairpin || is_mirrored d p.0.no) p.3 (special_by p.0 (subst (λ k. (p.0.hairpin ≡ true) ⊎ ((m : ℕ) × Mirrors d k m)) (sym p.2) p.4))))
        (number_passing (λ (p : Port). p.no) (is_special d) d.ports ports_differ)

    -- ---- members

    belongs : Port → ℕ → Bool
    belongs p vid = is_stack p || is_edge_member p vid

    HasVlan : Port → ℕ → Type 0
    HasVlan p vid = (v : Vlan) × IsIn conf.vlans v × (v.vid ≡ vid) × (belongs p v.vid ≡ true)

    vlans_of_port : (p : Port) → IsNumberOf (HasVlan p) (members_at conf p)
    unfolding HasVlan belongs
    vlans_of_port p = by (is_stack p) refl
      where
        by : (b : Bool) → is_stack p ≡ b → IsNumberOf (HasVlan p) (if b then length conf.vlans else count_by (λ v. is_edge_member p v.vid) conf.vlans)
        by true is =
            same_number _ (HasVlan p) (length conf.vlans) (λ vid m. (m.0, m.1, m.2, or_left (is_stack p) (is_edge_member p m.0.vid) is)) (λ vid m. (m.0, m.1, m.2))
            (number_of_keys (λ (v : Vlan). v.vid) conf.vlans told.vlans)
        by false is =
            same_number _ (HasVlan p) (count_by (λ v. is_edge_member p v.vid) conf.vlans)
            (λ vid m. (m.0, m.1, m.2, or_right (is_stack p) (is_edge_member p m.0.vid) m.3))
            (λ vid m. (m.0, m.1, m.2, elim (or_cases (is_stack p) (is_edge_member p m.0.vid) m.3) [ inl stack ↦ absurd (true≢false (sym stack ∙ is)) | inr edge ↦ edge ]))
            (number_passing (λ (v : Vlan). v.vid) (λ v. is_edge_member p v.vid) conf.vlans told.vlans)

    -- of a port by its four questions
    some_member : (s e n t : Bool) → (s || (e && (n || t))) ≡ true → (if s then Stack else if e && n then Native else if e && t then Tagged else member_case.None) ≡ member_case.None → ⊥
    some_member true e n t is none = absurd cc
    some_member false true true t is none = absurd cc
    some_member false true false true is none = absurd cc
    some_member false true false false is none = true≢false (sym is)
    some_member false false n t is none = true≢false (sym is)

    a_member : (s e n t : Bool) → ((if s then Stack else if e && n then Native else if e && t then Tagged else member_case.None) ≡ member_case.None → ⊥) → (s || (e && (n || t))) ≡ true
    a_member true e n t some = refl
    a_member false true true t some = refl
    a_member false true false true some = refl
    a_member false true false false some = absurd (some refl)
    a_member false false n t some = absurd (some refl)

    at_port : (number : ℕ) → port_at conf d.id number ≡ port_with d.ports number
    at_port number = ap (option_and_then (λ (d : Dp). port_with d.ports number)) (find_one (λ (d : Dp). d.id.0) conf.dps d d.id.0 told.dps (is_in conf.dps d c) refl)

    Belongs : ℕ × ℕ → Type 0
    Belongs pair = (p : Port) × IsIn d.ports p × (p.no ≡ pair.0) × HasVlan p pair.1

    is_member : (pair : ℕ × ℕ) → Belongs pair → IsMember conf d pair
    unfolding Belongs HasVlan belongs
    is_member pair m none =
        let p = m.0 in
        let v = m.3.0 in
        let vlan_is : vlan_with conf.vlans pair.1 ≡ Some v = find_one (λ (v : Vlan). v.vid) conf.vlans v pair.1 told.vlans m.3.1 m.3.2 in
        let port_is : port_at conf d.id pair.0 ≡ Some p = at_port pair.0 ∙ find_one (λ (p : Port). p.no) d.ports p pair.0 ports_differ m.1 m.2 in
        let member_is : member conf d.id pair.0 pair.1 ≡ member_of p pair.1 = ap (λ (o : Option Vlan). if is_some o then option_map_or (λ p. member_of p pair.1) (port_at conf d.id pair.0) member_case.None else member_case.None) vlan_is ∙ ap (λ (o : Option Port). option_map_or (λ p. member_of p pair.1) o member_case.None) port_is in
        some_member (is_stack p) (is_edge p) (is_native_in p pair.1) (is_tagged_in p pair.1) (subst (λ vid. belongs p vid ≡ true) m.3.2 m.3.3) (sym member_is ∙ none)

    of_member : (pair : ℕ × ℕ) → IsMember conf d pair → Belongs pair
    unfolding Belongs HasVlan belongs
    of_member pair some = by (vlan_with conf.vlans pair.1) refl (port_at conf d.id pair.0) refl some
      where
        by : (v : Option Vlan) → vlan_with conf.vlans pair.1 ≡ v → (p : Option Port) → port_at conf d.id pair.0 ≡ p → ((if is_some v then option_map_or (λ p. member_of p pair.1) p member_case.None else member_case.None) ≡ member_case.None → ⊥) → Belongs pair
        by None vlan_is p port_is some = absurd (some refl)
        by (Some v) vlan_is None port_is some = absurd (some refl)
        by (Some v) vlan_is (Some p) port_is some =
            let fv = found_one (λ (v : Vlan). v.vid) conf.vlans v pair.1 vlan_is in
            let fp = found_one (λ (p : Port). p.no) d.ports p pair.0 (sym (at_port pair.0) ∙ port_is) in
            (p, fp.0, fp.1, (v, fv.0, fv.1, subst (λ vid. belongs p vid ≡ true) (sym fv.1) (a_member (is_stack p) (is_edge p) (is_native_in p pair.1) (is_tagged_in p pair.1) some)))

    pub member_pairs : IsNumberOf (IsMember conf d) (sum_by (members_at conf) d.ports)
    unfolding Belongs
    member_pairs =
        same_number Belongs (IsMember conf d) (sum_by (members_at conf) d.ports) is_member of_member
        (number_of_pairs (λ (p : Port). p.no) (members_at conf) HasVlan d.ports ports_differ (all_by (λ p. IsNumberOf (HasVlan p) (members_at conf p)) d.ports (λ p i. vlans_of_port p)))
