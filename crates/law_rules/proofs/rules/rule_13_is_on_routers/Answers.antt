use Rattle.law_checks.proofs.KeptNetworks.{routers_kept}
use Rattle.law_checks.proofs.Routers.{routers_apart}
use Rattle.law_rules.proofs.rules.rule_13_is_on_routers.Goals as goal

pub returns : goal.returns
returns c = λ o. (routers_apart o, routers_kept o)
