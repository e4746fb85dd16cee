use Rattle.std.proofs.Common.{◌≡◌, drop}
use Rattle.std.specs.List.{flat_map}
use Rattle.conf_rules.specs.Places.{first}
use Rattle.gauge_conf.specs.Faults.{named_entry}
use Rattle.gauge_conf.proofs.faults.named_entries.Given as goal

-- no entry so far has a fault
abbrev pub invariant-loop-pair : goal.invariant-loop-pair
invariant-loop-pair l = first (flat_map (λ p. named_entry l.part l.site p.value p.key) (drop l.pair-index l.pairs)) ≡ first (flat_map (λ p. named_entry l.part l.site p.value p.key) l.pairs)
