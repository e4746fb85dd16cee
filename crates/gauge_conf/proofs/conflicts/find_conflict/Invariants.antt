use Rattle.std.proofs.Common.{◌≡◌, drop}
use Rattle.std.specs.List.{flat_map}
use Rattle.conf_rules.specs.Places.{first}
use Rattle.gauge_conf.specs.Conflicts.{watcher_conflicts}
use Rattle.gauge_conf.proofs.conflicts.find_conflict.Given as goal

-- no watcher so far has a conflict
abbrev pub invariant-loop-watcher : goal.invariant-loop-watcher
invariant-loop-watcher l = first (flat_map (watcher_conflicts l.dbs) (drop l.watcher-index l.watchers)) ≡ first (flat_map (watcher_conflicts l.dbs) l.watchers)
