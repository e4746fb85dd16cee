use Rattle.std.proofs.Common.{◌≡◌, ◌∙◌, ◌++◌, Option, None, List, sym, ap, subst, if◌then◌else◌}
use Rattle.std.specs.List.{list_any}
use Rattle.of_match.specs.declared.entry.Key.{Key}
use Rattle.stack_paths.specs.Stack.{Stack}
use Rattle.conf_types.specs.declared.change.Change.{Change}
use Rattle.conf_types.specs.Configuration.{Configuration}
use Rattle.packet_way.specs.Present.{state_of}
use Rattle.plan_units.specs.declared.unit.Unit.{Unit as PlanUnit}
use Rattle.cold_start.proofs.Groups.{own_id}
use Rattle.warm_plan.specs.declared.effect.Effect.{Effect}
use Rattle.warm_plan.specs.Effects.{named_units}
use Rattle.warm_plan.specs.Kept.{ArePaths}
use Rattle.warm_plan.specs.Named.{names_link}
use Rattle.warm_plan.specs.Parts.{ArePartsOf, AreTakenOut, keys_at, parts_without, parts_with, with_units}
use Rattle.warm_plan.specs.Places.{kept_places}
use Rattle.warm_plan.proofs.Settings.{are_taken_out, counted_listed, reached_again, wanted_again, parts_are_again}
use Rattle.warm_plan.proofs.Unnamed.{paths_stay}
use Rattle.warm_plan.proofs.again.make_again.Goals as goal

pub make-requires-clause-dp : goal.make-requires-clause-dp
make-requires-clause-dp g c = own_id c.args.event.now.conf.now.dps c.args.event.now.dp c.in-Some.dp.now (sym c.in-Some.ensures.found)

-- what was taken out of the plan
taken : (conf : Configuration) (changes : List Change) (a b : Option Stack) → a ≡ b
    → ◌≡◌ {A = Option Stack} (if list_any (names_link conf) changes then None else a) (if list_any (names_link conf) changes then None else b)
taken conf changes a b is = ap (λ (o : Option Stack). if list_any (names_link conf) changes then None else o) is

pub make-requires-clause-paths : goal.make-requires-clause-paths
make-requires-clause-paths g c =
    subst (ArePaths c.args.event.now.conf.now (state_of c.args.event.now.learned.now))
    (sym (c.in_ok-drop_units.ensures.paths ∙ c.still_paths.ensures ∙ taken c.args.event.now.conf.now c.args.event.now.changes.now _ _ c.take.ensures.value))
    (paths_stay c.args.event.now.conf.now c.args.before.now (state_of c.args.event.now.learned.now) c.args.event.now.changes.now c.requires.named c.requires.sound.valid
    (c.a_group_has_the_least_identifier_that_is_joined.ensures c.args.event.now.conf.now) c.args.plan.now.paths c.requires.paths)

pub returns-in_default-clause-paths : goal.returns-in_default-clause-paths
returns-in_default-clause-paths g c =
    subst (ArePaths c.args.event.now.conf.now (state_of c.args.event.now.learned.now))
    (sym (c.still_paths.ensures ∙ taken c.args.event.now.conf.now c.args.event.now.changes.now _ _ c.take.ensures.value))
    (paths_stay c.args.event.now.conf.now c.args.before.now (state_of c.args.event.now.learned.now) c.args.event.now.changes.now c.requires.named c.requires.sound.valid
    (c.a_group_has_the_least_identifier_that_is_joined.ensures c.args.event.now.conf.now) c.args.plan.now.paths c.requires.paths)

pub returns-clause-warm : goal.returns-clause-warm
returns-clause-warm g c = λ warm are.
    let conf = c.args.event.now.conf.now in
    let before = c.args.before.now in
    let state = state_of c.args.event.now.learned.now in
    let d = c.in-Some.dp.now in
    let is = sym c.in-Some.ensures.found in
    let changes = c.args.event.now.changes.now in
    let plan = c.args.plan.now in
    let gone = c.as_slice-4.result.now in
    let again = c.as_slice-5.result.now in
    let parts = keys_at plan.parts in
    let stood = kept_places c.args.stood.now in
    let places = c.requires.places d is in
    let effects = c.in_ok-effects.effects.items in
    let one_list : c.as_slice-3.result.now ≡ again = c.as_slice-3.ensures.value ∙ sym c.as_slice-5.ensures.value in
    let into = reached_again conf d before state changes stood places effects c.as_slice.result.now c.in_ok-effects.ensures c.as_slice.ensures.value _ again c.as_slice-5.ensures.value c.in_ok-again.ensures in
    let taken : gone ≡ named_units effects ++ again =
    c.as_slice-4.ensures ∙ c.in_ok-append.ensures.ok
    ∙ (λ i. (c.in_ok-gone.ensures i) ++ one_list i) ∙ ap (λ (es : List Effect). named_units es ++ again) c.as_slice-2.ensures.value in
    let out = subst (AreTakenOut conf before state d changes) (sym taken) (are_taken_out conf d before state changes stood places effects c.in_ok-effects.ensures c.requires.named again into) in
    let left : ◌≡◌ {A = PlanUnit → List Key} (keys_at c.drop_units.new.self.parts) (parts_without parts gone) = λ i u. c.in_ok-drop_units.ensures.parts u i in
    let now_parts : ◌≡◌ {A = PlanUnit → List Key} (keys_at c.make.new.self.parts) (parts_with conf state d (parts_without parts gone) again) =
    (λ i u. c.in_ok-make.ensures.parts u i) ∙ ap (λ (p : PlanUnit → List Key). parts_with conf state d p again) left in
    let wanted =
    c.in_ok-make.ensures.wanted ∙ ap (λ t. with_units conf state d t again) c.in_ok-drop_units.ensures.wanted
    ∙ wanted_again c.what_is_made_again_is_the_cold_start.ensures.wanted c.what_is_made_again_is_the_cold_start.ensures.parts conf before state c.args.event.now.dp d is c.requires.sound c.stays_sound.ensures changes c.requires.named parts plan.wanted warm are gone again out into in (
      wanted,
      subst (λ (ps : PlanUnit → List Key). ArePartsOf ps c.make.new.self.wanted) (sym now_parts)
          (subst (ArePartsOf (parts_with conf state d (parts_without parts gone) again)) (sym wanted)
          (parts_are_again c.what_is_made_again_is_the_cold_start.ensures.wanted c.what_is_made_again_is_the_cold_start.ensures.parts conf before state c.args.event.now.dp d is c.requires.sound c.stays_sound.ensures changes c.requires.named parts plan.wanted warm are gone again out into)),
    )

pub returns-clause-told : goal.returns-clause-told
returns-clause-told g c = λ from told. c.in_ok-make.ensures.told from (c.in_ok-drop_units.ensures.told from told)

pub returns-clause-most : goal.returns-clause-most
returns-clause-most g c =
    counted_listed c.args.event.now.conf.now c.in-Some.dp.now c.args.before.now (state_of c.args.event.now.learned.now) c.args.event.now.changes.now (kept_places c.args.stood.now)
    (c.requires.places c.in-Some.dp.now (sym c.in-Some.ensures.found)) c.in_ok-effects.effects.items c.as_slice.result.now c.in_ok-effects.ensures c.as_slice.ensures.value _ c.as_slice-5.result.now c.as_slice-5.ensures.value
    c.in_ok-again.ensures c.args.event.now.dp (sym c.in-Some.ensures.found) (g.T.Tally.count c.args.units.now) (g.T.Tally.count c.make.new.units) c.in_ok-make.ensures.most

pub returns-in_err-make-clause-most : goal.returns-in_err-make-clause-most
returns-in_err-make-clause-most g c =
    counted_listed c.args.event.now.conf.now c.in-Some.dp.now c.args.before.now (state_of c.args.event.now.learned.now) c.args.event.now.changes.now (kept_places c.args.stood.now)
    (c.requires.places c.in-Some.dp.now (sym c.in-Some.ensures.found)) c.in_ok-effects.effects.items c.as_slice.result.now c.in_ok-effects.ensures c.as_slice.ensures.value _ c.as_slice-5.result.now c.as_slice-5.ensures.value
    c.in_ok-again.ensures c.args.event.now.dp (sym c.in-Some.ensures.found) (g.T.Tally.count c.args.units.now) (g.T.Tally.count c.make.new.units) c.in_err-make.ensures.most
