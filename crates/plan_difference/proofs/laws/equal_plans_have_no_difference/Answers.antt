use Rattle.std.proofs.Common.{◌∙◌, [], sym, ap}
use Rattle.of_match.specs.Settled.{after_all}
use Rattle.plan_difference.specs.Difference.{difference}
use Rattle.plan_difference.proofs.Leads.{leads}
use Rattle.plan_difference.proofs.Needs.{none_of_equals}
use Rattle.plan_difference.proofs.laws.equal_plans_have_no_difference.Goals as goal

pub returns : goal.returns
returns c = λ from to h i. (
  λ none. sym (ap (after_all from) none) ∙ leads [] from to h i,
  λ same. ap (difference from) (sym same) ∙ none_of_equals from h,
)
