use Rattle.std.proofs.Common.{◌∙◌}
use Rattle.warm_plan.proofs.Telling.{brought}
use Rattle.warm_plan.proofs.touched.bring.Goals as goal

pub returns-clause-tables : goal.returns-clause-tables
returns-clause-tables c =
    c.in_ok-apply_all.ensures ∙ brought c.a_difference_leads_from_one_plan_to_the_other.ensures c.args.tables.now c.args.to.now c.are_ordered.ensures c.are_ordered-2.ensures c.in_ok-batch.batch c.in_ok-batch.ensures
