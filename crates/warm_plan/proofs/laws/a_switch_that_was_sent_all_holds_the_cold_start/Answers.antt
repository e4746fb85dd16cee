use Rattle.std.proofs.Common.{◌∙◌}
use Rattle.warm_plan.proofs.laws.a_switch_that_was_sent_all_holds_the_cold_start.Goals as goal

pub returns : goal.returns
returns c = λ k kept fresh settled settles.
    c.a_difference_leads_from_one_plan_to_the_other.ensures k.sent k.wanted settled kept.sent kept.wanted settles ∙ kept.warm fresh
