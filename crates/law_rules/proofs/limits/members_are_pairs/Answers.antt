use Rattle.law_rules.proofs.PortLimits.{member_pairs}
use Rattle.law_rules.proofs.limits.members_are_pairs.Goals as goal

pub returns : goal.returns
returns c = λ conf told d i. member_pairs conf told d i
