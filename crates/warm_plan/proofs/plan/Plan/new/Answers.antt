use Rattle.std.proofs.Common.{refl}
use Rattle.warm_plan.proofs.Telling.{told_first}
use Rattle.warm_plan.proofs.plan.Plan.new.Goals as goal

pub returns-clause-told : goal.returns-clause-told
returns-clause-told c = told_first _ _ _ _ refl c.new-2.ensures c.in_ok-touched.ensures
