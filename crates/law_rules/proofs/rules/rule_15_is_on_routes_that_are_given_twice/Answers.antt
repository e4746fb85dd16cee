use Rattle.law_rules.proofs.RoutedVlans.{routes_of_routers, routes_of_sets, routers_routes, sets_routes}
use Rattle.law_rules.proofs.rules.rule_15_is_on_routes_that_are_given_twice.Goals as goal

pub returns : goal.returns
returns c = record {
  routers = λ o numbers. (routes_of_routers o, routers_routes o numbers);
  sets = λ o numbers shared. (routes_of_sets o, sets_routes o numbers shared);
}
