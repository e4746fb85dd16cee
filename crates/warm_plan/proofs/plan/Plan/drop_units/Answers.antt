use Rattle.std.proofs.Common.{◌≡◌, ◌∙◌, ◌+◌, List, [], ◌∷◌, drop, sym, ap}
use Rattle.std.proofs.lemmas.List.{drop_more}
use Rattle.of_match.specs.declared.entry.Key.{Key}
use Rattle.plan_units.specs.declared.unit.Unit.{Unit as PlanUnit}
use Rattle.warm_plan.specs.Parts.{keys_at, parts_without, without_units}
use Rattle.warm_plan.specs.Units.{put}
use Rattle.warm_plan.proofs.plan.Plan.drop_units.Goals as goal

pub loop-unit-preserved : goal.loop-unit-preserved
loop-unit-preserved c =
    let gone = c.args.gone.now in
    let i = c.loop-unit.unit-index in
    let u = c.unit-item.result in
    let was = keys_at c.loop-unit.self.parts in
    let rest = drop (i + 1) gone in
    let step : ◌≡◌ {A = PlanUnit → List Key} (keys_at c.drop_one.new.self.parts) (put was u []) = λ j w. c.in_ok-drop_one.ensures.parts w j in
    let first : drop i gone ≡ u ∷ rest = drop_more gone i u c.loop-unit-test.true ∙ ap (λ (w : PlanUnit). w ∷ rest) (sym c.unit-item.is) in
    record {
      parts = λ w. ap (λ (p : PlanUnit → List Key). parts_without p rest w) step ∙ sym (ap (λ (us : List PlanUnit). parts_without was us w) first) ∙ c.loop-unit.invariant.parts w;
      wanted = (λ j. without_units (step j) (c.in_ok-drop_one.ensures.wanted j) rest) ∙ sym (ap (λ (us : List PlanUnit). without_units was c.loop-unit.self.wanted us) first) ∙ c.loop-unit.invariant.wanted;
      told = λ from told. c.in_ok-drop_one.ensures.told from (c.loop-unit.invariant.told from told);
      paths = c.in_ok-drop_one.ensures.paths ∙ c.loop-unit.invariant.paths;
    }
