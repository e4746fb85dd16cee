use Rattle.conf_resolve.specs.InOrder.{of_router, named_by_routers}
use Rattle.conf_resolve.specs.Added.{with_each}
use Rattle.conf_resolve.proofs.Adding.{next_added}
use Rattle.conf_resolve.proofs.vlans.add_routers.Goals as goal

pub loop-router-preserved : goal.loop-router-preserved
loop-router-preserved c =
    next_added of_router (with_each c.args.vlans.now (named_by_routers c.args.routers.now)) c.loop-router.vlans c.add_router.new.vlans c.args.routers.now c.loop-router.router-index c.router-item.result c.loop-router-test.true c.router-item.is c.loop-router.invariant c.in_ok-add_router.ensures
