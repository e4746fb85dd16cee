use Rattle.std.proofs.Common.{refl, sym, ◌∙◌}
use Rattle.conf_rules.proofs.First.{walked}
use Rattle.gauge_conf.specs.Conflicts.{watcher_conflicts}
use Rattle.gauge_conf.proofs.conflicts.find_conflict.Goals as goal

pub returns-in-Some : goal.returns-in-Some
returns-in-Some c =
    (walked (watcher_conflicts c.args.dbs.now) c.args.watchers.now _ c.loop-watcher.watcher-index c.watcher-item.result _ refl c.loop-watcher-test.true c.watcher-item.is c.loop-watcher.invariant).1
    c.in-Some.found (sym c.in_ok-found.ensures ∙ c.in-Some.is)

pub loop-watcher-preserved : goal.loop-watcher-preserved
loop-watcher-preserved c =
    (walked (watcher_conflicts c.args.dbs.now) c.args.watchers.now _ c.loop-watcher.watcher-index c.watcher-item.result _ refl c.loop-watcher-test.true c.watcher-item.is c.loop-watcher.invariant).0
    (sym c.in_ok-found.ensures ∙ c.in_default.is)
