use Rattle.std.proofs.Common.{codes, sym, ◌∙◌}
use Rattle.conf_rules.specs.Places.{under}
use Rattle.conf_rules.specs.Routing.{wrong_route}
use Rattle.conf_rules.proofs.First.{walked_each}
use Rattle.conf_limits.proofs.routing.wrong_routes_of.Goals as goal

pub returns-in-Some : goal.returns-in-Some
returns-in-Some c =
    (walked_each (under c.args.placed.now.site (codes "routes")) (wrong_route c.args.conf.now c.args.vlan.now) c.args.vlan.now.routes _ c.loop-i.i c.route-item.result _ c.as_slice-route-items.ensures c.loop-i-test.true c.route-item.is c.loop-i.invariant).1
    c.in-Some.found (sym c.in_ok-found.ensures ∙ c.in-Some.is)

pub loop-i-preserved : goal.loop-i-preserved
loop-i-preserved c =
    (walked_each (under c.args.placed.now.site (codes "routes")) (wrong_route c.args.conf.now c.args.vlan.now) c.args.vlan.now.routes _ c.loop-i.i c.route-item.result _ c.as_slice-route-items.ensures c.loop-i-test.true c.route-item.is c.loop-i.invariant).0
    (sym c.in_ok-found.ensures ∙ c.in_default.is)
