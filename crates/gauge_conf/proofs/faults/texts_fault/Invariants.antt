use Rattle.std.proofs.Common.{◌≡◌, drop, [], ◌∷◌}
use Rattle.std.specs.List.{flat_map, enumerate_from}
use Rattle.conf_rules.specs.Places.{first, nth}
use Rattle.gauge_conf.specs.Faults.{item_faults, texts_faults}
use Rattle.gauge_conf.proofs.faults.texts_fault.Given as goal

-- each so far is a text
abbrev pub invariant-loop-i : goal.invariant-loop-i
invariant-loop-i l = first (flat_map item_faults (flat_map (λ item. (nth l.site item.0, item.1) ∷ []) (enumerate_from l.i (drop l.i l.items)))) ≡ first (texts_faults l.site l.items)
