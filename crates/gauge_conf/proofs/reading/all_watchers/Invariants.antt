use Rattle.std.proofs.Common.{◌≡◌, ◌++◌, map, drop}
use Rattle.gauge_conf.specs.Raw.{watcher_of}
use Rattle.gauge_conf.proofs.reading.all_watchers.Given as goal

-- what is left completes the list
abbrev pub invariant-loop-pair : goal.invariant-loop-pair
invariant-loop-pair l = l.made ++ map watcher_of (drop l.pair-index l.pairs) ≡ map watcher_of l.pairs
