use Rattle.law_checks.proofs.Acls.{acls_of_vlans, acls_of_ports}
use Rattle.law_checks.proofs.KeptNames.{acls_kept}
use Rattle.law_rules.proofs.rules.rule_6_is_on_acls_that_are_named.Goals as goal

pub returns : goal.returns
returns c = λ o single. (λ none. record { of_vlans = acls_of_vlans o none; of_ports = acls_of_ports o none }, λ is. acls_kept o single is.of_vlans is.of_ports)
