use Rattle.law_checks.proofs.KeptNetworks.{leads_kept}
use Rattle.law_checks.proofs.Routers.{routes_valid}
use Rattle.law_rules.proofs.rules.rule_14_is_on_routes.Goals as goal

pub returns : goal.returns
returns c = λ o. (routes_valid o, leads_kept o)
