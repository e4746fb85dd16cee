use Rattle.std.proofs.Common.{◌≡◌, ◌++◌, map, drop}
use Rattle.gauge_conf.specs.Resolved.{watcher_of}
use Rattle.gauge_conf.proofs.resolving.make_watchers.Given as goal

-- what is left completes the list
abbrev pub invariant-loop-watcher : goal.invariant-loop-watcher
invariant-loop-watcher l = l.made ++ map (watcher_of l.raw.dbs l.dps) (drop l.watcher-index l.raw.watchers) ≡ map (watcher_of l.raw.dbs l.dps) l.raw.watchers
