-- A plan that is made, and made again, of the datapath with an identifier.
use Rattle.std.proofs.Common.{◌≡◌, ℕ, ◌*◌, ◌≤◌, length, Bool, true, false, Option, Some, List, [], ◌++◌, map, filter, sym, ap, subst, ◌∙◌, arith}
use Rattle.std.specs.Prelude.{Contains}
use Rattle.std.specs.Option.{option_map_or}
use Rattle.net_base.specs.declared.numbers.DpId.{DpId}
use Rattle.of_match.specs.declared.entry.Entry.{Entry}
use Rattle.of_match.specs.declared.entry.Key.{Key}
use Rattle.stack_paths.specs.Stack.{Stack}
use Rattle.conf_types.specs.declared.datapath.Dp.{Dp}
use Rattle.conf_types.specs.Configuration.{Configuration, dp_with}
use Rattle.conf_types.specs.State.{State}
use Rattle.plan_units.specs.declared.unit.Unit.{Unit as PlanUnit}
use Rattle.plan_units.specs.Laws.{IsSetting}
use Rattle.cold_start.specs.Cold.{cold, cold_at, units_of, units_at}
use Rattle.cold_start.specs.Counts.{RisesAtMost}
use Rattle.cold_start.proofs.Groups.{own_id}
use Rattle.conf_types.specs.declared.change.Change.{Change}
use Rattle.conf_types.specs.Changes.{AreNamed}
use Rattle.law_units.specs.Reached.{is_reached}
use Rattle.law_runs.specs.Members.{of_all, all_by, in_filtered}
use Rattle.warm_plan.specs.declared.effect.Effect.{Effect}
use Rattle.warm_plan.specs.Effects.{effect_of, reached_by, all_units_by, named_units}
use Rattle.warm_plan.specs.Kept.{Kept, IsSound, IsWarm, reached_at}
use Rattle.warm_plan.specs.Once.{AreOnce}
use Rattle.warm_plan.specs.Parts.{ArePartsOf, AreReached, AreTakenOut, parts_without, without_units, parts_with, with_units}
use Rattle.warm_plan.specs.Places.{Places, places_of}
use Rattle.warm_plan.proofs.Listed.{listed_reached, reached_listed}
use Rattle.warm_plan.proofs.Longer.{no_longer}
use Rattle.warm_plan.proofs.Reaching.{same_reach}
use Rattle.warm_plan.proofs.TakenOut.{are_out}

pub setting_of : (conf : Configuration) (now : State) (id : DpId) (d : Dp) → dp_with conf.dps id ≡ Some d → IsSound conf now → IsSetting conf now d
setting_of conf now id d is sound = record { valid = sound.valid; state = sound.state; addresses = sound.addresses; is_dp = own_id conf.dps id d is }

pub cold_is : (conf : Configuration) (now : State) (id : DpId) (d : Dp) → dp_with conf.dps id ≡ Some d → cold_at conf now id ≡ cold conf now d
cold_is conf now id d is = ap (λ o. option_map_or (cold conf now) o []) is

pub units_are : (conf : Configuration) (now : State) (id : DpId) (d : Dp) → dp_with conf.dps id ≡ Some d → units_at conf now id ≡ units_of conf now d
units_are conf now id d is = ap (λ o. option_map_or (units_of conf now) o []) is

pub reached_are : (conf : Configuration) (old new : State) (id : DpId) (d : Dp) (changes : List Change) → dp_with conf.dps id ≡ Some d → reached_at conf old new id changes ≡ filter (is_reached conf old new d changes) (units_of conf new d)
reached_are conf old new id d changes is = ap (λ o. option_map_or (λ (e : Dp). filter (is_reached conf old new e changes) (units_of conf new e)) o []) is

-- ---- the test is that of the reach

module _ (conf : Configuration) (d : Dp) (old new : State) (changes : List Change) (stood : Places) (was : stood ≡ places_of conf d old.hosts) where
  same_test : (effects : List Effect) → effects ≡ map (effect_of conf d stood new.hosts) changes → ◌≡◌ {A = PlanUnit → Bool} (reached_by conf d effects) (is_reached conf old new d changes)
  same_test effects are = ap (reached_by conf d) (are ∙ (λ i. map (effect_of conf d (was i) new.hosts) changes)) ∙ same_reach conf d old new changes

  pub are_reached : (effects : List Effect) → effects ≡ map (effect_of conf d stood new.hosts) changes → (us : List PlanUnit) → AreOnce us (all_units_by conf d new.hosts effects) → AreReached conf old new d changes us
  are_reached effects are us once = record {
    once = once.once;
    reached = all_by (λ u. is_reached conf old new d changes u ≡ true) us (λ u c. sym (ap (λ (r : PlanUnit → Bool). r u) (same_test effects are)) ∙ (of u c).0);
    listed = all_by (Contains (units_of conf new d)) us (λ u c. (of u c).1);
    whole = λ u c reached. ((once.same u).1) (reached_listed conf new d effects u c (ap (λ (r : PlanUnit → Bool). r u) (same_test effects are) ∙ reached));
  }
    where
      of : (u : PlanUnit) → Contains us u → (reached_by conf d effects u ≡ true) × Contains (units_of conf new d) u
      of u c = listed_reached conf new d effects u (((once.same u).0) c)

  -- by lists that are the same
  pub reached_again : (effects listed : List Effect) → effects ≡ map (effect_of conf d stood new.hosts) changes → listed ≡ effects → (made us : List PlanUnit) → us ≡ made
      → AreOnce made (all_units_by conf d new.hosts listed) → AreReached conf old new d changes us
  reached_again effects listed are same made us is once =
      are_reached effects are us (subst (λ (es : List Effect). AreOnce us (all_units_by conf d new.hosts es)) same (subst (λ (ws : List PlanUnit). AreOnce ws (all_units_by conf d new.hosts listed)) (sym is) once))

  pub are_taken_out : (effects : List Effect) → effects ≡ map (effect_of conf d stood new.hosts) changes → AreNamed conf old new changes → (again : List PlanUnit) → AreReached conf old new d changes again
      → AreTakenOut conf old new d changes (named_units effects ++ again)
  are_taken_out effects are named again into =
      are_out conf d old new changes named stood effects are (λ u. ap (λ (r : PlanUnit → Bool). r u) (same_test effects are)) again into

  -- no more are made than are reached
  pub counted_again : (id : DpId) → dp_with conf.dps id ≡ Some d → (made : List PlanUnit) → AreReached conf old new d changes made → (before after : ℕ)
      → RisesAtMost (3 * length made) before after → RisesAtMost (3 * length (reached_at conf old new id changes)) before after
  counted_again id at made are before after most =
      subst (λ (us : List PlanUnit). RisesAtMost (3 * length us) before after) (sym (reached_are conf old new id d changes at)) (omega (arith, most, fewer))
    where
      fewer : length made ≤ length (filter (is_reached conf old new d changes) (units_of conf new d))
      fewer =
          no_longer made (filter (is_reached conf old new d changes) (units_of conf new d)) are.once
          (λ u c. in_filtered (is_reached conf old new d changes) (units_of conf new d) u (of_all (Contains (units_of conf new d)) made are.listed u c) (of_all (λ w. is_reached conf old new d changes w ≡ true) made are.reached u c))

  pub counted_listed : (effects listed : List Effect) → effects ≡ map (effect_of conf d stood new.hosts) changes → listed ≡ effects → (made us : List PlanUnit) → us ≡ made
      → AreOnce made (all_units_by conf d new.hosts listed) → (id : DpId) → dp_with conf.dps id ≡ Some d → (before after : ℕ)
      → RisesAtMost (3 * length us) before after → RisesAtMost (3 * length (reached_at conf old new id changes)) before after
  counted_listed effects listed are same made us is once id at before after most = counted_again id at us (reached_again effects listed are same made us is once) before after most

-- ---- made again

module _ (wanted_law : (conf : Configuration) (old new : State) (d : Dp) (changes : List Change) (parts : PlanUnit → List Key) (gone again : List PlanUnit)
    → IsSetting conf old d → IsSetting conf new d → AreNamed conf old new changes → ArePartsOf parts (cold conf old d)
    → AreTakenOut conf old new d changes gone → AreReached conf old new d changes again → with_units conf new d (without_units parts (cold conf old d) gone) again ≡ cold conf new d)
    (parts_law : (conf : Configuration) (old new : State) (d : Dp) (changes : List Change) (parts : PlanUnit → List Key) (gone again : List PlanUnit)
    → IsSetting conf old d → IsSetting conf new d → AreNamed conf old new changes → ArePartsOf parts (cold conf old d)
    → AreTakenOut conf old new d changes gone → AreReached conf old new d changes again → ArePartsOf (parts_with conf new d (parts_without parts gone) again) (cold conf new d))
    (conf : Configuration) (old new : State) (id : DpId) (d : Dp) (is : dp_with conf.dps id ≡ Some d) (so : IsSound conf old) (sn : IsSound conf new)
    (changes : List Change) (named : AreNamed conf old new changes) (parts : PlanUnit → List Key) (wanted : List Entry) (warm : wanted ≡ cold_at conf old id) (are : ArePartsOf parts wanted)
    (gone again : List PlanUnit) (out : AreTakenOut conf old new d changes gone) (into : AreReached conf old new d changes again) where
  was : wanted ≡ cold conf old d
  was = warm ∙ cold_is conf old id d is

  were : ArePartsOf parts (cold conf old d)
  were = subst (ArePartsOf parts) was are

  pub wanted_again : with_units conf new d (without_units parts wanted gone) again ≡ cold_at conf new id
  wanted_again =
      ap (λ (t : List Entry). with_units conf new d (without_units parts t gone) again) was
      ∙ wanted_law conf old new d changes parts gone again (setting_of conf old id d is so) (setting_of conf new id d is sn) named were out into ∙ sym (cold_is conf new id d is)

  pub parts_are_again : ArePartsOf (parts_with conf new d (parts_without parts gone) again) (cold_at conf new id)
  parts_are_again =
      subst (ArePartsOf (parts_with conf new d (parts_without parts gone) again)) (sym (cold_is conf new id d is))
      (parts_law conf old new d changes parts gone again (setting_of conf old id d is so) (setting_of conf new id d is sn) named were out into)

-- ---- what was kept, after an event

pub kept_again : (k : Kept) (stood : Places) (parts : PlanUnit → List Key) (paths : Option Stack) (touched : List Key) (made_before : List Entry) → IsWarm k stood parts paths touched made_before → k.is_spent ≡ false → (conf : Configuration) → conf ≡ k.conf
    → (new : State) (made : List Entry) (made_parts : PlanUnit → List Key)
    → (k.wanted ≡ cold_at conf k.state k.dp → ArePartsOf parts k.wanted → (made ≡ cold_at conf new k.dp) × ArePartsOf made_parts made)
    → (made ≡ cold_at conf new k.dp) × ArePartsOf made_parts made
kept_again k stood parts paths touched made_before warm fresh conf same new made made_parts by =
    by (warm.kept.warm fresh ∙ ap (λ (c : Configuration). cold_at c k.state k.dp) (sym same)) (warm.indexed fresh).keyed
