use Rattle.std.proofs.Common.{◌≡◌, ◌++◌, drop}
use Rattle.std.specs.List.{filter_map}
use Rattle.gauge_conf.specs.Resolved.{found_db}
use Rattle.gauge_conf.proofs.resolving.dbs_named.Given as goal

-- what is left completes the list
abbrev pub invariant-loop-name : goal.invariant-loop-name
invariant-loop-name l = l.found ++ filter_map (found_db l.dbs) (drop l.name-index l.names) ≡ filter_map (found_db l.dbs) l.names
