use Rattle.law_rules.proofs.Apart.{told}
use Rattle.law_rules.proofs.rules.what_keeps_rules_1_to_3_is_told_by_numbers.Goals as goal

pub returns : goal.returns
returns c = λ o vlans dps ports. told o vlans dps ports
