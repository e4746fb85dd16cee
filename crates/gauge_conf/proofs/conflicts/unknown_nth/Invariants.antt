use Rattle.std.proofs.Common.{◌≡◌, drop, [], ◌∷◌}
use Rattle.std.specs.List.{flat_map, enumerate_from}
use Rattle.conf_rules.specs.Places.{first, nth, each_at}
use Rattle.gauge_conf.specs.Conflicts.{unknown_db}
use Rattle.gauge_conf.proofs.conflicts.unknown_nth.Given as goal

-- none so far is unknown
abbrev pub invariant-loop-i : goal.invariant-loop-i
invariant-loop-i l = first (flat_map (unknown_db l.dbs) (flat_map (λ item. (nth l.site item.0, item.1) ∷ []) (enumerate_from l.i (drop l.i l.names)))) ≡ first (flat_map (unknown_db l.dbs) (each_at l.site l.names))
