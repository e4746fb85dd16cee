use Rattle.law_checks.proofs.Acls.{ports_on, vlans_on}
use Rattle.law_checks.proofs.KeptAcls.{targets_kept}
use Rattle.law_rules.proofs.rules.rule_8_is_on_ports_that_acls_name.Goals as goal

pub returns : goal.returns
returns c = λ o in_order. (λ none. record { ports_on = ports_on o none; vlans_on = vlans_on o none }, λ is. targets_kept o in_order is.ports_on is.vlans_on)
