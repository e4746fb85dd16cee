use Rattle.law_rules.proofs.AtMost.{at_most, within}
use Rattle.law_rules.proofs.limits.limits_have_their_numbers.Goals as goal

pub returns : goal.returns
returns c = λ conf. (at_most conf, within conf)
