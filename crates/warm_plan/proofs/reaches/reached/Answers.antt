use Rattle.std.proofs.Common.{List, subst, ◌∙◌}
use Rattle.std.proofs.lemmas.Result.{IfOk-weaker}
use Rattle.plan_units.specs.declared.unit.Unit.{Unit as PlanUnit}
use Rattle.warm_plan.specs.Effects.{all_units_by}
use Rattle.warm_plan.specs.Once.{AreOnce}
use Rattle.warm_plan.proofs.reaches.reached.Goals as goal

pub returns : goal.returns
returns c =
    let all = all_units_by c.args.conf.now c.args.dp.now c.args.hosts.now c.args.effects.now in
    let is = c.as_slice.ensures ∙ c.in_ok-all.ensures in
    IfOk-weaker c.once.result (λ made. AreOnce made.items c.as_slice.result.now) (λ made. AreOnce made.items all) (λ made once. subst (λ (us : List PlanUnit). AreOnce made.items us) is once) c.once.ensures
