use Rattle.law_rules.proofs.RoutedVlans.{vips_of_routers, vips_of_sets, routers_vips, sets_vips}
use Rattle.law_rules.proofs.rules.rule_12_is_on_vips.Goals as goal

pub returns : goal.returns
returns c = record {
  routers = λ o numbers. (vips_of_routers o, routers_vips o numbers);
  sets = λ o numbers shared. (vips_of_sets o, sets_vips o numbers shared);
  always = vips_of_sets;
}
