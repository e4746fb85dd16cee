use Rattle.conf_limits.proofs.Joined.{router_more}
use Rattle.conf_limits.proofs.routed.places_of.Goals as goal

pub loop-i-preserved : goal.loop-i-preserved
loop-i-preserved c =
    router_more c.loop-i.places c.add_router.new.places c.args.routers.now c.loop-i.i c.index-routers-i.result c.as_slice.result.now c.loop-i-test.true c.index-routers-i.is c.as_slice.ensures c.loop-i.invariant c.in_ok-add_router.ensures
