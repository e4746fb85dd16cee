use Rattle.std.proofs.Common.{◌≡◌, ◌∙◌, ◌+◌, List, ◌∷◌, drop, sym, ap}
use Rattle.std.proofs.lemmas.List.{drop_more}
use Rattle.plan_units.specs.declared.unit.Unit.{Unit as PlanUnit}
use Rattle.warm_plan.specs.Places.{Places, kept_places, all_renewed}
use Rattle.warm_plan.proofs.stood.Stood.renew_all.Goals as goal

pub loop-unit-preserved : goal.loop-unit-preserved
loop-unit-preserved c =
    let conf = c.args.conf.now in
    let d = c.args.dp.now in
    let hosts = c.args.hosts.now in
    let units = c.args.units.now in
    let i = c.loop-unit.unit-index in
    let u = c.unit-item.result in
    let rest = drop (i + 1) units in
    let first : drop i units ≡ u ∷ rest = drop_more units i u c.loop-unit-test.true ∙ ap (λ (w : PlanUnit). w ∷ rest) (sym c.unit-item.is) in
    ap (λ (p : Places). all_renewed conf d hosts rest p) c.in_ok-renew.ensures ∙ sym (ap (λ (us : List PlanUnit). all_renewed conf d hosts us (kept_places c.loop-unit.self)) first) ∙ c.loop-unit.invariant
