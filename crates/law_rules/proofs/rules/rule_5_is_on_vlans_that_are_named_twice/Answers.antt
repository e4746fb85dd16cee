use Rattle.law_checks.proofs.Datapaths.{each_once}
use Rattle.law_checks.proofs.KeptNames.{once_kept}
use Rattle.law_rules.proofs.rules.rule_5_is_on_vlans_that_are_named_twice.Goals as goal

pub returns : goal.returns
returns c = λ o. (each_once o, once_kept o)
