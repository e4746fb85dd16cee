-- What stands apart VLAN by VLAN, where packets are routed between them, does so in each routing set.
use Rattle.std.specs.Prelude.{◌≡◌, ℕ, ◌==◌, ◌&&◌, true, List, [], ◌∷◌, Option, Some, None}
use Rattle.std.specs.List.{AllByRecursion, flat_map, list_any}
use Rattle.std.specs.Option.{option_map_or}
use Rattle.std.proofs.Common.{◌⊎◌, inl, inr, refl, sym, ap, ◌∙◌, subst, eqb-true, eq-eqb}
use Rattle.std.proofs.lemmas.Bool.{and_from, or_left, or_right}
use Rattle.conf_types.specs.declared.vlan.Router.{Router}
use Rattle.conf_types.specs.declared.vlan.Vlan.{Vlan}
use Rattle.conf_types.specs.Configuration.{Configuration, vlan_with}
use Rattle.conf_types.specs.Lists.{EachBefore, AreDistinct, is_among}
use Rattle.conf_types.specs.Routing.{router_with, routing_set}
use Rattle.conf_rules.specs.Routing.{are_routed}
use Rattle.law_checks.proofs.Members.{IsIn, of_all, all_by, among, any_by, found, before_by, before_flat, EachTo, two_of}

-- the VLANs are different ones, and packets are routed between each two of them
pub record IsSet (conf : Configuration) (vids : List ℕ) : Type 0 where
  pub distinct : AreDistinct vids
  pub routed : (m n : ℕ) → IsIn vids m → IsIn vids n → are_routed conf m n ≡ true

pub set_of : (conf : Configuration) → AllByRecursion (λ r. AreDistinct r.vlans) conf.routers → (vid : ℕ) → IsSet conf (routing_set conf vid)
set_of conf once vid = by (router_with conf.routers vid) refl
  where
    alone : (m n : ℕ) → IsIn (vid ∷ []) m → IsIn (vid ∷ []) n → are_routed conf m n ≡ true
    alone m n (inl e) (inl f) = or_left (m == n) _ (eq-eqb m n (sym e ∙ f))
    alone m n (inl e) (inr j) = absurd j
    alone m n (inr i) j = absurd i

    by : (o : Option Router) → router_with conf.routers vid ≡ o → IsSet conf (option_map_or (λ router. router.vlans) o (vid ∷ []))
    by None is = record { distinct = (tt, tt); routed = alone }
    by (Some r) is =
        let here = (found (λ (r : Router). is_among r.vlans vid) conf.routers r is).0 in
        record {
          distinct = of_all (λ (r : Router). AreDistinct r.vlans) conf.routers once r here;
          routed = λ m n i j. or_right (m == n) (list_any (λ (r : Router). is_among r.vlans m && is_among r.vlans n) conf.routers)
              (any_by (λ (r : Router). is_among r.vlans m && is_among r.vlans n) conf.routers r here (and_from (is_among r.vlans m) (is_among r.vlans n) (among r.vlans m i) (among r.vlans n j)));
        }

module _ {X : Type 0} (conf : Configuration) (f : Vlan → List X) (R : X → X → Type 0) (back : (a b : X) → R a b → R b a) where
  -- those of a VLAN by its number
  abbrev of : ℕ → List X
  of vid = option_map_or f (vlan_with conf.vlans vid) []

  abbrev AreApartFrom : Vlan → Vlan → Type 0
  AreApartFrom v w = are_routed conf v.vid w.vid ≡ true → EachTo R (f v) (f w)

  module _ (within : AllByRecursion (λ v. EachBefore R (f v)) conf.vlans) (across : EachBefore AreApartFrom conf.vlans) where
    of_one : (vid : ℕ) → EachBefore R (of vid)
    of_one vid = by (vlan_with conf.vlans vid) refl
      where
        by : (o : Option Vlan) → vlan_with conf.vlans vid ≡ o → EachBefore R (option_map_or f o [])
        by None is = tt
        by (Some v) is = of_all (λ v. EachBefore R (f v)) conf.vlans within v (found (λ (v : Vlan). v.vid == vid) conf.vlans v is).0

    of_vlans : (m n : ℕ) (v w : Vlan) → (m ≡ n → ⊥) → are_routed conf m n ≡ true → are_routed conf n m ≡ true → IsIn conf.vlans v → IsIn conf.vlans w → v.vid ≡ m → w.vid ≡ n → EachTo R (f v) (f w)
    of_vlans m n v w other mn nm cv cw vm wn = by (two_of AreApartFrom conf.vlans across v w cv cw)
      where
        forth : are_routed conf v.vid w.vid ≡ true
        forth = subst (λ x. are_routed conf x w.vid ≡ true) (sym vm) (subst (λ x. are_routed conf m x ≡ true) (sym wn) mn)

        reverse : are_routed conf w.vid v.vid ≡ true
        reverse = subst (λ x. are_routed conf x v.vid ≡ true) (sym wn) (subst (λ x. are_routed conf n x ≡ true) (sym vm) nm)

        by : (v ≡ w) ⊎ (AreApartFrom v w ⊎ AreApartFrom w v) → EachTo R (f v) (f w)
        by (inl e) = absurd (other (sym vm ∙ ap (λ (u : Vlan). u.vid) e ∙ wn))
        by (inr (inl a)) = a forth
        by (inr (inr a)) = λ x y i j. back y x (a reverse y x j i)

    of_two : (m n : ℕ) → (m ≡ n → ⊥) → are_routed conf m n ≡ true → are_routed conf n m ≡ true → EachTo R (of m) (of n)
    of_two m n other mn nm = by (vlan_with conf.vlans m) refl (vlan_with conf.vlans n) refl
      where
        by : (o : Option Vlan) → vlan_with conf.vlans m ≡ o → (p : Option Vlan) → vlan_with conf.vlans n ≡ p → EachTo R (option_map_or f o []) (option_map_or f p [])
        by None is p at = λ x y i j. absurd i
        by (Some v) is None at = λ x y i j. absurd j
        by (Some v) is (Some w) at =
            let a = found (λ (v : Vlan). v.vid == m) conf.vlans v is in
            let b = found (λ (v : Vlan). v.vid == n) conf.vlans w at in
            of_vlans m n v w other mn nm a.0 b.0 (eqb-true v.vid m a.1) (eqb-true w.vid n b.1)

    pub of_set : (vids : List ℕ) → IsSet conf vids → EachBefore R (flat_map of vids)
    of_set vids set =
        before_flat R of vids (all_by (λ vid. EachBefore R (of vid)) vids (λ vid i. of_one vid))
        (before_by (λ (m n : ℕ). m ≡ n → ⊥) (λ m n. EachTo R (of m) (of n)) vids set.distinct (λ m n i j other. of_two m n other (set.routed m n i j) (set.routed n m j i)))
