use Rattle.gauge_conf.specs.Resolved.{once}
use Rattle.gauge_conf.proofs.Once.{next_new}
use Rattle.gauge_conf.proofs.names.once.Goals as goal

pub loop-name-preserved : goal.loop-name-preserved
loop-name-preserved c =
    next_new (once c.args.names.now) c.loop-name.made c.push_new.new.names c.args.names.now c.loop-name.name-index c.name-item.result c.loop-name-test.true c.name-item.is c.loop-name.invariant c.in_ok-push_new.ensures
