use Rattle.law_checks.proofs.Law.{law}
use Rattle.law_checks.proofs.valid.what_breaks_no_rule_is_valid.Goals as goal

pub returns : goal.returns
returns c = λ raw range none. law raw range none
