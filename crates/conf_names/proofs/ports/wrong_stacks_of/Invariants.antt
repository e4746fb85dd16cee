use Rattle.std.proofs.Common.{◌≡◌, drop, [], ◌∷◌}
use Rattle.conf_rules.specs.Places.{first, interfaces_of}
use Rattle.conf_rules.specs.Ports.{wrong_stack}
use Rattle.std.specs.List.{flat_map, zip}
use Rattle.conf_names.proofs.ports.wrong_stacks_of.Given as goal

-- none so far breaks the rule
abbrev pub invariant-loop-i : goal.invariant-loop-i
invariant-loop-i l = first (flat_map (wrong_stack l.dps.ordered.now l.dps.numbered.conf.now) (flat_map (λ p. record { raw_dp = l.raw_dp; dp = l.dp; raw = p.0; port = p.1 } ∷ []) (zip (drop l.i l.raw_dp.ports) (drop l.i l.dp.ports)))) ≡ first (flat_map (wrong_stack l.dps.ordered.now l.dps.numbered.conf.now) (interfaces_of (l.raw_dp, l.dp)))
