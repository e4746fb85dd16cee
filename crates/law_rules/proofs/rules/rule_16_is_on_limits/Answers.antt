use Rattle.law_checks.proofs.KeptLimits.{limits_kept}
use Rattle.law_checks.proofs.Limits.{limits_valid}
use Rattle.law_rules.proofs.rules.rule_16_is_on_limits.Goals as goal

pub returns : goal.returns
returns c = λ o. (limits_valid o, limits_kept o)
