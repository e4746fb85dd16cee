use Rattle.law_checks.proofs.KeptLaw.{law}
use Rattle.law_checks.proofs.valid.what_is_valid_breaks_no_rule.Goals as goal

pub returns : goal.returns
returns c = λ o names single valid. law o names single valid
