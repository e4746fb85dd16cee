-- What is made again is the cold start.
use Rattle.std.proofs.Common.{◌≡◌, Bool, true, false, inl, inr, Some, List, [], ◌∷◌, map, refl, sym, ap, subst, ◌∙◌, true≢false, arith, IsPermutation}
use Rattle.std.specs.Prelude.{Contains}
use Rattle.std.specs.List.{AllByRecursion, flat_map}
use Rattle.std.proofs.lemmas.Option.{same_Some}
use Rattle.of_match.specs.declared.entry.Command.TheVariants.{Add}
use Rattle.of_match.specs.declared.entry.Entry.{Entry}
use Rattle.of_match.specs.declared.entry.Key.{Key}
use Rattle.of_match.specs.FlowTables.{IsInKeyOrder}
use Rattle.conf_types.specs.declared.datapath.Dp.{Dp}
use Rattle.conf_types.specs.Configuration.{Configuration}
use Rattle.conf_types.specs.Lists.{AreDistinct}
use Rattle.conf_types.specs.State.{State}
use Rattle.law_runs.specs.Members.{head_of, tail_of, of_all, all_by, in_flat}
use Rattle.plan_base.proofs.Each.{before_append, before_of_append}
use Rattle.plan_base.specs.Accepted.{HaveDistinctKeys}
use Rattle.plan_units.specs.declared.unit.Unit.{Unit as PlanUnit}
use Rattle.plan_units.specs.Laws.{IsSetting, HasAddresses}
use Rattle.plan_units.specs.Units.{entries, plan}
use Rattle.cold_start.specs.Cold.{cold, units_of}
use Rattle.cold_start.proofs.Permuted.{order_after_all}
use Rattle.conf_types.specs.declared.change.Change.{Change}
use Rattle.law_units.specs.Owner.{owner}
use Rattle.law_units.specs.Reached.{is_reached}
use Rattle.warm_plan.specs.Parts.{ArePartsOf, AreReached, AreTakenOut, parts_without, without_units, parts_with, with_units}
use Rattle.warm_plan.proofs.Commands.{of_cons, of_flat, with, with_held, with_new, of_with, units_joined, same_members}
use Rattle.warm_plan.proofs.Kept.{HasNone, without_all, without_others, units_stay, units_left, units_order, with_all, with_others, with_own}
use Rattle.warm_plan.proofs.Made.{IsOfUnit, owner_of, of_cold, to_cold, part_owned, key_in_part}

-- a unit that isn't reached has the same entries, up to order
pub record Stays (conf : Configuration) (old new : State) (d : Dp) (u : PlanUnit) : Type 0 where
  pub to : (e : Entry) → Contains (entries conf old d u) e → Contains (entries conf new d u) e
  pub back : (e : Entry) → Contains (entries conf new d u) e → Contains (entries conf old d u) e

-- ---- no two with one key

module _ {A : Type 0} (f : A → List Entry) where
  -- where no two of all entries have one, no two of each list have
  distinct_part : (xs : List A) (x : A) → HaveDistinctKeys (flat_map f xs) → Contains xs x → HaveDistinctKeys (f x)
  distinct_part [] x h (k, lt, is) = absurd (omega (arith, lt))
  distinct_part (y ∷ ys) x h c =
      let parts = before_of_append (λ (e g : Entry). e.key ≡ g.key → ⊥) (f y) (flat_map f ys) h in
      elim (of_cons y ys x c) [
        | inl same ↦ subst (λ (z : A). HaveDistinctKeys (f z)) same parts.0
        | inr more ↦ distinct_part ys x parts.1 more
      ]

module _ (f : PlanUnit → List Entry) (owned : (u : PlanUnit) (e : Entry) → Contains (f u) e → owner e.key ≡ Some u) where
  -- units that differ own different keys
  distinct_units : (us : List PlanUnit) → AreDistinct us → ((u : PlanUnit) → Contains us u → HaveDistinctKeys (f u)) → HaveDistinctKeys (flat_map f us)
  distinct_units [] once each = tt
  distinct_units (u ∷ us) once each =
      before_append (λ e g. e.key ≡ g.key → ⊥) (f u) (flat_map f us) (each u (head_of u us)) (distinct_units us once.1 (λ w c. each w (tail_of u us w c)))
      (all_by (λ e. AllByRecursion (λ g. e.key ≡ g.key → ⊥) (flat_map f us)) (f u) (λ e ce. all_by (λ (g : Entry). e.key ≡ g.key → ⊥) (flat_map f us) (λ g cg. apart e ce g cg)))
    where
      apart : (e : Entry) → Contains (f u) e → (g : Entry) → Contains (flat_map f us) g → e.key ≡ g.key → ⊥
      apart e ce g cg keys =
          let of = of_flat f us g cg in
          of_all (λ w. u ≡ w → ⊥) us once.0 of.from of.within (same_Some u of.from (sym (owned u e ce) ∙ ap owner keys ∙ owned of.from g of.here))

module _ (owned : (conf : Configuration) (now : State) (d : Dp) → HasAddresses now → (u : PlanUnit) → AllByRecursion (λ e. owner e.key ≡ Some u) (entries conf now d u))
    (listed : (conf : Configuration) (now : State) (d : Dp) (u : PlanUnit) (e : Entry) → Contains (entries conf now d u) e → Contains (units_of conf now d) u)
    (whole : (conf : Configuration) (now : State) (d : Dp) → IsSetting conf now d → plan conf now d ≡ flat_map (entries conf now d) (units_of conf now d))
    (same : (conf : Configuration) (now : State) (d : Dp) → IsSetting conf now d → IsPermutation (plan conf now d) (cold conf now d))
    (distinct : (conf : Configuration) (now : State) (d : Dp) → IsSetting conf now d → HaveDistinctKeys (plan conf now d))
    (order : (conf : Configuration) (now : State) (d : Dp) → IsInKeyOrder (cold conf now d))
    (conf : Configuration) (old new : State) (d : Dp) (changes : List Change) (so : IsSetting conf old d) (sn : IsSetting conf new d)
    (stays : (u : PlanUnit) → is_reached conf old new d changes u ≡ false → Stays conf old new d u)
    (parts : PlanUnit → List Key) (are : ArePartsOf parts (cold conf old d))
    (gone made_units : List PlanUnit) (out : AreTakenOut conf old new d changes gone) (into : AreReached conf old new d changes made_units) where
  abbrev reached : PlanUnit → Bool
  reached = is_reached conf old new d changes

  abbrev made : List Entry
  made = flat_map (entries conf new d) made_units

  abbrev left : List Entry
  left = without_units parts (cold conf old d) gone

  abbrev again : List Entry
  again = with left made

  abbrev parts_now : PlanUnit → List Key
  parts_now = parts_with conf new d (parts_without parts gone) made_units

  -- ---- the units

  not_reached : (us : List PlanUnit) → AllByRecursion (λ u. reached u ≡ true) us → (u : PlanUnit) → reached u ≡ false → Contains us u → ⊥
  not_reached us all u is c = true≢false (sym (of_all (λ w. reached w ≡ true) us all u c) ∙ is)

  old_owner : (u : PlanUnit) (e : Entry) → Contains (entries conf old d u) e → owner e.key ≡ Some u
  old_owner u e c = owner_of owned listed whole same conf old d so u e c

  new_owner : (u : PlanUnit) (e : Entry) → Contains (entries conf new d u) e → owner e.key ≡ Some u
  new_owner u e c = owner_of owned listed whole same conf new d sn u e c

  to_new : (u : PlanUnit) (e : Entry) → Contains (entries conf new d u) e → Contains (cold conf new d) e
  to_new u e c = to_cold owned listed whole same conf new d sn u e c

  -- the key of an entry isn't kept of a unit that is taken out, where its own isn't reached
  stays_held : (u : PlanUnit) (e : Entry) → owner e.key ≡ Some u → reached u ≡ false → (w : PlanUnit) → Contains gone w → HasNone (parts w) e
  stays_held u e own is w there = all_by (λ k. e.key ≡ k → ⊥) (parts w) other
    where
      other : (k : Key) → Contains (parts w) k → e.key ≡ k → ⊥
      other k c keys =
          let its : w ≡ u = same_Some w u (sym (of_all (λ key. owner key ≡ Some w) (parts w) (are.own w) k c) ∙ ap owner (sym keys) ∙ own) in
          not_reached gone out.reached u is (subst (Contains gone) its there)

  -- ---- the members

  from_left : (e : Entry) → Contains left e → Contains (cold conf new d) e
  from_left e c = by (reached of.unit) refl
    where
      parted : Contains (cold conf old d) e × ((u : PlanUnit) → Contains gone u → HasNone (parts u) e)
      parted = units_left gone parts (cold conf old d) e c

      of : IsOfUnit conf old d e
      of = of_cold owned listed whole same conf old d so e parted.0

      kept : Contains (parts of.unit) e.key
      kept = are.whole e parted.0 of.unit (old_owner of.unit e of.here)

      by : (b : Bool) → reached of.unit ≡ b → Contains (cold conf new d) e
      by true is = absurd (of_all (λ k. e.key ≡ k → ⊥) (parts of.unit) (parted.1 of.unit (out.whole of.unit of.listed is)) e.key kept refl)
      by false is = to_new of.unit e ((stays of.unit is).to e of.here)

  from_made : (e : Entry) → Contains made e → Contains (cold conf new d) e
  from_made e c = let of = of_flat (entries conf new d) made_units e c in to_new of.from e of.here

  forward : (e : Entry) → Contains again e → Contains (cold conf new d) e
  forward e c = elim (of_with made left e c) [ inl here ↦ from_left e here | inr here ↦ from_made e here ]

  made_distinct : HaveDistinctKeys made
  made_distinct =
      distinct_units (entries conf new d) new_owner made_units into.once
      (λ u c. distinct_part (entries conf new d) (units_of conf new d) u (subst HaveDistinctKeys (whole conf new d sn) (distinct conf new d sn)) (of_all (Contains (units_of conf new d)) made_units into.listed u c))

  -- an entry of a unit that isn't reached has another key than each that is made
  other_key : (u : PlanUnit) (e : Entry) → owner e.key ≡ Some u → reached u ≡ false → (f : Entry) → Contains made f → e.key ≡ f.key → ⊥
  other_key u e own is f c keys =
      let of = of_flat (entries conf new d) made_units f c in
      let its : of.from ≡ u = same_Some of.from u (sym (new_owner of.from f of.here) ∙ ap owner (sym keys) ∙ own) in
      not_reached made_units into.reached u is (subst (Contains made_units) its of.within)

  module _ (e : Entry) (c : Contains (cold conf new d) e) where
    its_unit : IsOfUnit conf new d e
    its_unit = of_cold owned listed whole same conf new d sn e c

    abbrev u : PlanUnit
    u = its_unit.unit

    is_owned : owner e.key ≡ Some u
    is_owned = new_owner u e its_unit.here

    in_units : reached u ≡ true → Contains made_units u
    in_units is = into.whole u its_unit.listed is

    stood : reached u ≡ false → Contains (cold conf old d) e
    stood is = to_cold owned listed whole same conf old d so u e ((stays u is).back e its_unit.here)

    backward : Contains again e
    backward = by (reached u) refl
      where
        by : (b : Bool) → reached u ≡ b → Contains again e
        by true is = with_new made left e made_distinct (in_flat (entries conf new d) made_units u e (in_units is) its_unit.here)
        by false is =
            with_held made left e (units_stay gone parts (cold conf old d) e (stood is) (stays_held u e is_owned is))
            (all_by (λ f. e.key ≡ f.key → ⊥) made (λ f there. other_key u e is_owned is f there))

    has_key : (w : PlanUnit) → owner e.key ≡ Some w → Contains (parts_now w) e.key
    has_key w own = subst (λ (v : PlanUnit). Contains (parts_now v) e.key) (same_Some u w (sym is_owned ∙ own)) (by (reached u) refl)
      where
        by : (b : Bool) → reached u ≡ b → Contains (parts_now u) e.key
        by true is =
            subst (λ (ks : List Key). Contains ks e.key) (sym (with_own conf new d made_units (parts_without parts gone) u (in_units is)))
            (key_in_part owned listed whole same conf new d sn u e its_unit.here)
        by false is =
            subst (λ (ks : List Key). Contains ks e.key)
            (sym (with_others conf new d made_units (parts_without parts gone) u (not_reached made_units into.reached u is) ∙ without_others gone parts u (not_reached gone out.reached u is)))
            (are.whole e (stood is) u is_owned)

  -- ---- both

  pub again_cold : with_units conf new d left made_units ≡ cold conf new d
  again_cold =
      units_joined conf new d left made_units
      ∙ same_members again (cold conf new d) (order_after_all left (map Add made) (units_order gone parts (cold conf old d) (order conf old d))) (order conf new d) forward backward

  abbrev Own : PlanUnit → List Key → Type 0
  Own u keys = AllByRecursion (λ k. owner k ≡ Some u) keys

  pub again_parts : ArePartsOf parts_now (cold conf new d)
  again_parts = record {
    own = with_all conf new d Own (λ u. part_owned owned listed whole same conf new d sn u) made_units (parts_without parts gone)
        (without_all Own (λ u. tt) gone parts are.own);
    whole = has_key;
  }
