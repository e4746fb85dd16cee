use Rattle.plan_difference.proofs.Least.{no_fewer}
use Rattle.plan_difference.proofs.laws.a_difference_is_the_least_list.Goals as goal

pub returns : goal.returns
returns c = λ from to h i commands keys is. no_fewer from to h i commands keys is
