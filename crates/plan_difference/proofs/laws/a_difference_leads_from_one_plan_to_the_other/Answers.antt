use Rattle.std.proofs.Common.{◌∙◌, []}
use Rattle.plan_difference.specs.Difference.{difference}
use Rattle.plan_difference.proofs.Leads.{leads}
use Rattle.plan_difference.proofs.Needs.{ascends, distinct}
use Rattle.plan_difference.proofs.laws.a_difference_leads_from_one_plan_to_the_other.Goals as goal

pub returns : goal.returns
returns c = λ from to settled h i settles.
    c.commands_of_distinct_keys_commute.ensures from (difference from to) settled (distinct (difference from to) (ascends from to h i)) settles ∙ leads [] from to h i
