use Rattle.law_checks.proofs.Acls.{fields_asked}
use Rattle.law_checks.proofs.KeptAcls.{fields_kept}
use Rattle.law_rules.proofs.rules.rule_9_is_on_what_fields_ask_for.Goals as goal

pub returns : goal.returns
returns c = λ o. (fields_asked o, fields_kept o)
