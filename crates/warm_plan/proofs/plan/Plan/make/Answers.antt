use Rattle.std.proofs.Common.{◌≡◌, ◌∙◌, ◌+◌, List, ◌∷◌, Option, None, Some, map, drop, sym, ap, subst, arith}
use Rattle.std.specs.Prelude.{IfSome}
use Rattle.std.specs.Borrow.{Bor}
use Rattle.std.specs.Option.{option_copied}
use Rattle.std.proofs.lemmas.List.{drop_more}
use Rattle.stack_paths.specs.Stack.{Stack}
use Rattle.of_match.specs.declared.entry.Command.TheVariants.{Add}
use Rattle.of_match.specs.declared.entry.Entry.{Entry}
use Rattle.of_match.specs.declared.entry.Key.{Key}
use Rattle.of_match.specs.Settled.{after_all}
use Rattle.packet_way.specs.Known.{stack_of}
use Rattle.packet_way.specs.Present.{state_of}
use Rattle.plan_units.specs.declared.unit.Unit.{Unit as PlanUnit}
use Rattle.plan_units.specs.Units.{entries}
use Rattle.warm_plan.specs.Parts.{keys_of, keys_at, parts_with}
use Rattle.warm_plan.specs.Units.{put}
use Rattle.warm_plan.proofs.Commands.{units_more}
use Rattle.warm_plan.proofs.plan.Plan.make.Goals as goal

-- what holds of the paths holds of what is lent of them
lent : (right : Stack → Type 0) (r : Option (Bor Stack)) (paths : Option Stack) → option_copied r ≡ paths → IfSome paths right → IfSome r (λ s. right s.now)
lent right None paths is holds = tt
lent right (Some s) paths is holds = subst (λ (o : Option Stack). IfSome o right) (sym is) holds

pub make_one-requires-clause-paths : goal.make_one-requires-clause-paths
make_one-requires-clause-paths g c = lent (λ (s : Stack). s ≡ stack_of c.args.conf.now c.args.now.now.ups.now) c.as_ref-paths.result c.in_ok-known.known c.as_ref-paths.ensures.value c.in_ok-known.ensures

pub loop-unit-preserved : goal.loop-unit-preserved
loop-unit-preserved g c =
    let conf = c.args.conf.now in
    let state = state_of c.args.now.now in
    let d = c.args.dp.now in
    let made = c.args.made.now in
    let i = c.loop-unit.unit-index in
    let u = c.unit-item.result in
    let was = keys_at c.loop-unit.self.parts in
    let its = keys_of (entries conf state d u) in
    let step : ◌≡◌ {A = PlanUnit → List Key} (keys_at c.make_one.new.self.parts) (put was u its) = λ j w. c.in_ok-make_one.ensures.parts w j in
    let first : drop i made ≡ u ∷ drop (i + 1) made = drop_more made i u c.loop-unit-test.true ∙ ap (λ (w : PlanUnit). w ∷ drop (i + 1) made) (sym c.unit-item.is) in
    record {
      parts = λ w.
          ap (λ (p : PlanUnit → List Key). parts_with conf state d p (drop (i + 1) made) w) step
          ∙ sym (ap (λ (us : List PlanUnit). parts_with conf state d was us w) first) ∙ c.loop-unit.invariant.parts w;
      wanted = c.in_ok-make_one.ensures.wanted ∙ ap (λ (t : List Entry). after_all t (map Add (entries conf state d u))) c.loop-unit.invariant.wanted
          ∙ units_more conf state d c.args.self.now.wanted made i u c.loop-unit-test.true c.unit-item.is;
      told = λ from told. c.in_ok-make_one.ensures.told from (c.loop-unit.invariant.told from told);
      most = omega (arith, c.in_ok-make_one.ensures.most, c.loop-unit.invariant.most);
      least = omega (arith, c.in_ok-make_one.ensures.least, c.loop-unit.invariant.least);
    }
