use Rattle.cold_start.proofs.Distinct.{plan_differs}
use Rattle.cold_start.proofs.laws.the_keys_of_a_plan_are_distinct.Goals as goal

pub returns : goal.returns
returns c = λ conf now d setting. plan_differs conf now d setting
