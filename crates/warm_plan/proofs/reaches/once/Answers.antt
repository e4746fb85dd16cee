use Rattle.std.proofs.Common.{◌≡◌, List, sym, subst}
use Rattle.std.proofs.lemmas.Result.{IfOk-weaker}
use Rattle.plan_units.specs.declared.unit.Unit.{Unit as PlanUnit}
use Rattle.warm_plan.specs.Once.{AreOnce}
use Rattle.warm_plan.proofs.Listed.{once_from}
use Rattle.warm_plan.proofs.reaches.once.Goals as goal

pub returns : goal.returns
returns c =
    let all = c.args.units.now in
    let set = c.in_ok-set.set in
    IfOk-weaker c.members.result (λ made. made.items ≡ set.keys) (λ made. AreOnce made.items all) (λ made is. subst (λ (us : List PlanUnit). AreOnce us all) (sym is) (once_from all set c.in_ok-set.ensures)) c.members.ensures
