use Rattle.law_rules.proofs.RouteLimits.{route_pairs, gateway_triples, item_triples}
use Rattle.law_rules.proofs.limits.routes_are_counted_by_vlans.Goals as goal

pub returns-clause-routes : goal.returns-clause-routes
returns-clause-routes c = λ conf told. route_pairs conf told

pub returns-clause-gateways : goal.returns-clause-gateways
returns-clause-gateways c = λ conf told. gateway_triples conf told

pub returns-clause-items : goal.returns-clause-items
returns-clause-items c = λ conf told. item_triples conf told
