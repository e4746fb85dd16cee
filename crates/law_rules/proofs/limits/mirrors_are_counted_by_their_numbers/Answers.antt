use Rattle.law_rules.proofs.PortLimits.{mirror_numbers, special_numbers}
use Rattle.law_rules.proofs.limits.mirrors_are_counted_by_their_numbers.Goals as goal

pub returns-clause-mirrors : goal.returns-clause-mirrors
returns-clause-mirrors c = λ conf told d i number. mirror_numbers conf told d i number

pub returns-clause-special : goal.returns-clause-special
returns-clause-special c = λ conf told d i. special_numbers conf told d i
