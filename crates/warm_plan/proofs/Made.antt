-- The entries of a datapath, unit by unit.
use Rattle.std.proofs.Common.{◌≡◌, Some, List, [], map, sym, ap, subst, ◌∙◌, IsPermutation}
use Rattle.std.specs.Prelude.{Contains}
use Rattle.std.specs.List.{AllByRecursion, flat_map}
use Rattle.std.proofs.lemmas.List.Sorted.{Contains-permutation, IsPermutation-sym}
use Rattle.std.proofs.lemmas.Option.{same_Some}
use Rattle.of_match.specs.declared.entry.Command.TheVariants.{Add}
use Rattle.of_match.specs.declared.entry.Entry.{Entry}
use Rattle.of_match.specs.declared.entry.Key.{Key}
use Rattle.of_match.specs.Settled.{after_all}
use Rattle.conf_types.specs.declared.datapath.Dp.{Dp}
use Rattle.conf_types.specs.Configuration.{Configuration}
use Rattle.conf_types.specs.State.{State}
use Rattle.law_runs.specs.Members.{of_all, all_mapped, in_flat, in_mapped}
use Rattle.plan_units.specs.declared.unit.Unit.{Unit as PlanUnit}
use Rattle.plan_units.specs.Laws.{IsSetting, HasAddresses}
use Rattle.plan_units.specs.Units.{entries, plan}
use Rattle.cold_start.specs.Cold.{cold, units_of}
use Rattle.law_units.specs.Owner.{owner}
use Rattle.warm_plan.specs.Parts.{keys_of, ArePartsOf, parts_with, with_units}
use Rattle.warm_plan.proofs.Commands.{of_flat, units_joined}
use Rattle.warm_plan.proofs.Kept.{with_all, with_own}

abbrev pub IsOwned : PlanUnit → Key → Type 0
IsOwned u k = owner k ≡ Some u

-- an entry, and a unit of whose entries it is one
pub record IsOfUnit (conf : Configuration) (now : State) (d : Dp) (e : Entry) : Type 0 where
  pub unit : PlanUnit
  pub listed : Contains (units_of conf now d) unit
  pub here : Contains (entries conf now d unit) e

module _ (owned : (conf : Configuration) (now : State) (d : Dp) → HasAddresses now → (u : PlanUnit) → AllByRecursion (λ e. owner e.key ≡ Some u) (entries conf now d u))
    (listed : (conf : Configuration) (now : State) (d : Dp) (u : PlanUnit) (e : Entry) → Contains (entries conf now d u) e → Contains (units_of conf now d) u)
    (whole : (conf : Configuration) (now : State) (d : Dp) → IsSetting conf now d → plan conf now d ≡ flat_map (entries conf now d) (units_of conf now d))
    (same : (conf : Configuration) (now : State) (d : Dp) → IsSetting conf now d → IsPermutation (plan conf now d) (cold conf now d))
    (conf : Configuration) (now : State) (d : Dp) (setting : IsSetting conf now d) where
  abbrev all : List Entry
  all = flat_map (entries conf now d) (units_of conf now d)

  pub owner_of : (u : PlanUnit) (e : Entry) → Contains (entries conf now d u) e → owner e.key ≡ Some u
  owner_of u e c = of_all (λ (x : Entry). owner x.key ≡ Some u) (entries conf now d u) (owned conf now d setting.addresses u) e c

  pub of_cold : (e : Entry) → Contains (cold conf now d) e → IsOfUnit conf now d e
  of_cold e c =
      let back = IsPermutation-sym (plan conf now d) (cold conf now d) (same conf now d setting) in
      let there = subst (λ (es : List Entry). Contains es e) (whole conf now d setting) (Contains-permutation (cold conf now d) (plan conf now d) e back c) in
      let unit = of_flat (entries conf now d) (units_of conf now d) e there in
      record { unit = unit.from; listed = unit.within; here = unit.here }

  pub to_cold : (u : PlanUnit) (e : Entry) → Contains (entries conf now d u) e → Contains (cold conf now d) e
  to_cold u e c =
      let there : Contains all e = in_flat (entries conf now d) (units_of conf now d) u e (listed conf now d u e c) c in
      Contains-permutation (plan conf now d) (cold conf now d) e (same conf now d setting) (subst (λ (es : List Entry). Contains es e) (sym (whole conf now d setting)) there)

  pub part_owned : (u : PlanUnit) → AllByRecursion (IsOwned u) (keys_of (entries conf now d u))
  part_owned u = all_mapped (IsOwned u) (λ (e : Entry). e.key) (entries conf now d u) (owned conf now d setting.addresses u)

  pub key_in_part : (u : PlanUnit) (e : Entry) → Contains (entries conf now d u) e → Contains (keys_of (entries conf now d u)) e.key
  key_in_part u e c = in_mapped (λ (x : Entry). x.key) (entries conf now d u) e c

  -- ---- all of them

  pub all_made : with_units conf now d [] (units_of conf now d) ≡ cold conf now d
  unfolding cold
  all_made = units_joined conf now d [] (units_of conf now d) ∙ ap (λ (es : List Entry). after_all [] (map Add es)) (sym (whole conf now d setting))

  pub all_parts : ArePartsOf (parts_with conf now d (λ _. []) (units_of conf now d)) (cold conf now d)
  all_parts = record {
    own = with_all conf now d (λ u keys. AllByRecursion (IsOwned u) keys) part_owned (units_of conf now d) (λ _. []) (λ u. tt);
    whole = λ e c w own.
        let of = of_cold e c in
        let unit : of.unit ≡ w = same_Some of.unit w (sym (owner_of of.unit e of.here) ∙ own) in
        subst (λ (u : PlanUnit). Contains (parts_with conf now d (λ _. []) (units_of conf now d) u) e.key) unit
        (subst (λ (ks : List Key). Contains ks e.key) (sym (with_own conf now d (units_of conf now d) (λ _. []) of.unit of.listed)) (key_in_part of.unit e of.here));
  }
