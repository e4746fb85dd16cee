use Rattle.std.proofs.Common.{◌≡◌, ◌++◌, drop, map}
use Rattle.std.specs.List.{flat_map}
use Rattle.gauge_conf.specs.Keys.{seen_row}
use Rattle.conf_rules.specs.Places.{first}
use Rattle.gauge_conf.specs.Faults.{value_faults, entry_faults, missing, map_faults}
use Rattle.gauge_conf.proofs.faults.top_map.Given as goal

-- no entry so far has a fault
abbrev pub invariant-loop-pair : goal.invariant-loop-pair
invariant-loop-pair l = first (flat_map (entry_faults value_faults (map seen_row l.rows) l.site) (drop l.pair-index l.pairs) ++ missing (map seen_row l.rows) l.site l.pairs) ≡ first (map_faults value_faults (map seen_row l.rows) l.site l.pairs)
