use Rattle.std.proofs.Common.{◌≡◌, drop}
use Rattle.std.specs.List.{flat_map}
use Rattle.conf_rules.specs.Places.{first}
use Rattle.gauge_conf.specs.Resolved.{unknown_of, unknown_dps}
use Rattle.gauge_conf.proofs.resolving.find_unknown.Given as goal

-- no watcher so far names one that is unknown
abbrev pub invariant-loop-watcher : goal.invariant-loop-watcher
invariant-loop-watcher l = first (flat_map (unknown_of l.dps) (drop l.watcher-index l.watchers)) ≡ first (unknown_dps l.dps l.watchers)
