use Rattle.std.proofs.Common.{sym, ◌∙◌}
use Rattle.conf_rules.specs.Limits.{many_router_vlans}
use Rattle.conf_rules.proofs.First.{walked_beside}
use Rattle.conf_limits.proofs.limits.too_many_router_vlans.Goals as goal

pub returns-in-Some-2 : goal.returns-in-Some-2
returns-in-Some-2 c =
    (walked_beside many_router_vlans c.args.ordered.now.routers _ c.args.conf.now.routers _ c.loop-i.i c.raw-item.result c.in-Some.router.now _ c.as_slice-raw-items.ensures c.loop-i-test.true c.raw-item.is (c.as_slice-routers.ensures ∙ c.routers.ensures) c.in-Some.ensures.lookup.3.0 c.in-Some.ensures.lookup.1 c.loop-i.invariant).1
    c.in-Some-2.found (sym c.in_ok-found.ensures ∙ c.in-Some-2.is)

pub loop-i-preserved : goal.loop-i-preserved
loop-i-preserved c =
    (walked_beside many_router_vlans c.args.ordered.now.routers _ c.args.conf.now.routers _ c.loop-i.i c.raw-item.result c.in-Some.router.now _ c.as_slice-raw-items.ensures c.loop-i-test.true c.raw-item.is (c.as_slice-routers.ensures ∙ c.routers.ensures) c.in-Some.ensures.lookup.3.0 c.in-Some.ensures.lookup.1 c.loop-i.invariant).0
    (sym c.in_ok-found.ensures ∙ c.in_default-2.is)
