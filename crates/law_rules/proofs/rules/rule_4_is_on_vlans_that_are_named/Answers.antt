use Rattle.law_rules.proofs.NamedVlans.{vlans_exist, none_lacks}
use Rattle.law_rules.proofs.rules.rule_4_is_on_vlans_that_are_named.Goals as goal

pub returns : goal.returns
returns c = λ o. (vlans_exist o, none_lacks o)
