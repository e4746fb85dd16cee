-- What more changes name reaches no less, and what differs is among all differences.
use Rattle.std.proofs.Common.{◌≡◌, ◌≤◌, zero, suc, Bool, true, false, cond, not, List, [], ◌∷◌, ◌++◌, filter, length, Option, Some, None, refl, sym, ap, ◌∙◌, subst, arith, true≢false}
use Rattle.std.specs.Prelude.{◌↔◌, Contains}
use Rattle.std.specs.List.{list_any}
use Rattle.std.specs.Option.{option_eq}
use Rattle.std.proofs.lemmas.Bool.{or_left, or_right}
use Rattle.conf_types.specs.declared.datapath.Dp.{Dp}
use Rattle.conf_types.specs.declared.change.Change.{Change}
use Rattle.conf_types.specs.declared.change.Change.TheVariants as change
use Rattle.conf_types.specs.Changes.{AreNamed}
use Rattle.conf_types.specs.Configuration.{Configuration}
use Rattle.conf_types.specs.State.{State}
use Rattle.plan_units.specs.declared.unit.Unit.{Unit as PlanUnit}
use Rattle.plan_units.specs.Agrees.{equal_bytes}
use Rattle.plan_units.specs.Facts.{some_passes}
use Rattle.law_runs.specs.Members.{all_by, all_filtered, of_all}
use Rattle.law_units.specs.Reached.{is_other, is_reached, reaches}
use Rattle.law_names.specs.Differences.{differences, parts_of}
use Rattle.law_names.specs.Differing.{differs, is_one_address, is_one_place}
use Rattle.law_names.proofs.Differences.{all_named}
use Rattle.law_names.proofs.Joined.{itself, place_itself}

-- ---- tests of lists

any_of : {A : Type 0} (test : A → Bool) (xs : List A) (x : A) → Contains xs x → test x ≡ true → list_any test xs ≡ true
any_of test [] x (k, lt, is) passes = absurd (omega (arith, lt))
any_of test (y ∷ ys) x (zero, lt, is) passes = or_left (test y) (list_any test ys) (ap test is ∙ passes)
any_of test (y ∷ ys) x (suc k, lt, is) passes = or_right (test y) (list_any test ys) (any_of test ys x (k, omega (arith, lt), is) passes)

module _ {A : Type 0} (p q : A → Bool) (more : (x : A) → p x ≡ true → q x ≡ true) where
  fewer : (xs : List A) → length (filter p xs) ≤ length (filter q xs)
  fewer [] = omega arith
  fewer (x ∷ xs) = by (p x) (q x) refl refl (fewer xs)
    where
      by : (a b : Bool) → p x ≡ a → q x ≡ b → length (filter p xs) ≤ length (filter q xs) → length (cond a (x ∷ filter p xs) (filter p xs)) ≤ length (cond b (x ∷ filter q xs) (filter q xs))
      by true true is_p is_q rest = omega (arith, rest)
      by true false is_p is_q rest = absurd (true≢false (sym (more x is_p) ∙ is_q))
      by false true is_p is_q rest = omega (arith, rest)
      by false false is_p is_q rest = rest

-- ---- the reach of more changes

module _ (conf : Configuration) (old new : State) (d : Dp) (xs ys : List Change) where
  pub reached_by_more : (u : PlanUnit) → ((c : Change) → Contains xs c → Contains ys c) → is_reached conf old new d xs u ≡ true → is_reached conf old new d ys u ≡ true
  reached_by_more u within is =
      let one = some_passes (λ c. reaches conf old new d c u) xs is in
      any_of (λ c. reaches conf old new d c u) ys one.0 (within one.0 (one.1).within) (one.1).passes

  pub more_are_reached : (units : List PlanUnit) → ((c : Change) → Contains xs c → Contains ys c)
      → length (filter (is_reached conf old new d xs) units) ≤ length (filter (is_reached conf old new d ys) units)
  more_are_reached units within = fewer (is_reached conf old new d xs) (is_reached conf old new d ys) (λ u is. reached_by_more u within is) units

-- ---- what differs

option_itself : {A : Type 0} (test : A → A → Bool) → ((a : A) → test a a ≡ true) → (o : Option A) → option_eq test o o ≡ true
option_itself test self None = refl
option_itself test self (Some a) = self a

not_both : (b : Bool) → b ≡ true → not b ≡ true → ⊥
not_both true is other = true≢false (sym other)
not_both false is other = true≢false (sym is)

apart : {A : Type 0} (test : A → A → Bool) → ((a : A) → test a a ≡ true) → (a b : Option A) → not (option_eq test a b) ≡ true → a ≡ b → ⊥
apart test self a b is same = not_both (option_eq test a b) (subst (λ o. option_eq test a o ≡ true) same (option_itself test self a)) is

apart_bool : (a b : Bool) → is_other a b ≡ true → a ≡ b → ⊥
apart_bool a b is same = not_both (is_other a b) is (subst (λ o. not (is_other a o) ≡ true) same (itself a))

pub named_within : (conf : Configuration) (old new : State) (xs : List Change) → AreNamed conf old new xs → (c : Change) → differs conf old new c ≡ true → Contains xs c
named_within conf old new xs named (change.Host group vid mac) is = named.hosts group vid mac (apart is_one_place place_itself _ _ is)
named_within conf old new xs named (change.Port dp port) is = named.ports dp port (apart_bool _ _ is)
named_within conf old new xs named (change.Dp dp) is = named.dps dp (apart_bool _ _ is)
named_within conf old new xs named (change.Neighbour group vid ip) is = named.neighbours group vid ip (apart is_one_address (λ a. equal_bytes a.0 a.0 refl) _ _ is)

module _ (conf : Configuration) (old new : State) where
  within_all : (c : Change) → differs conf old new c ≡ true → Contains (differences conf old new) c
  within_all = named_within conf old new (differences conf old new) (all_named conf old new)

  all_differ : (c : Change) → Contains (differences conf old new) c → differs conf old new c ≡ true
  all_differ c here =
      let parts : List Change = parts_of conf old ++ parts_of conf new in
      of_all (λ x. differs conf old new x ≡ true) (differences conf old new)
      (all_filtered (λ x. differs conf old new x ≡ true) (differs conf old new) parts (all_by (λ x. differs conf old new x ≡ true → differs conf old new x ≡ true) parts (λ x within is. is))) c here

  pub differ_exactly : (c : Change) → Contains (differences conf old new) c ↔ (differs conf old new c ≡ true)
  differ_exactly c = (all_differ c, within_all c)

  pub bounded : (d : Dp) (touched : List Change) (units : List PlanUnit) → ((c : Change) → Contains touched c → differs conf old new c ≡ true)
      → length (filter (is_reached conf old new d touched) units) ≤ length (filter (is_reached conf old new d (differences conf old new)) units)
  bounded d touched units differ = more_are_reached conf old new d touched (differences conf old new) units (λ c within. within_all c (differ c within))
