use Rattle.std.proofs.Common.{◌≡◌, ◌++◌, drop}
use Rattle.std.specs.List.{filter_map}
use Rattle.gauge_conf.specs.Resolved.{id_of}
use Rattle.gauge_conf.proofs.resolving.ids_named.Given as goal

-- what is left completes the list
abbrev pub invariant-loop-name : goal.invariant-loop-name
invariant-loop-name l = l.ids ++ filter_map (id_of l.dps) (drop l.name-index l.names) ≡ filter_map (id_of l.dps) l.names
