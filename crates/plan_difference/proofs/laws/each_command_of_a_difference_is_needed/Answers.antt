use Rattle.plan_difference.proofs.Needs.{ascends, needed, untouched}
use Rattle.plan_difference.proofs.laws.each_command_of_a_difference_is_needed.Goals as goal

pub returns-clause-ascending : goal.returns-clause-ascending
returns-clause-ascending c = λ from to h i. ascends from to h i

pub returns-clause-needed : goal.returns-clause-needed
returns-clause-needed c = λ from to h i. needed from to h i

pub returns-clause-untouched : goal.returns-clause-untouched
returns-clause-untouched c = λ from to h i e here there. untouched from to h i e here there
