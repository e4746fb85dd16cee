use Rattle.std.proofs.Common.{◌≡◌, drop, [], ◌∷◌}
use Rattle.conf_rules.specs.Limits.{many_mirrors}
use Rattle.conf_rules.specs.Places.{first, interfaces_of}
use Rattle.std.specs.List.{flat_map, zip}
use Rattle.conf_limits.proofs.limits.many_mirrors_of.Given as goal

-- none so far breaks the rule
abbrev pub invariant-loop-i : goal.invariant-loop-i
invariant-loop-i l = first (flat_map many_mirrors (flat_map (λ p. record { raw_dp = l.raw_dp; dp = l.dp; raw = p.0; port = p.1 } ∷ []) (zip (drop l.i l.raw_dp.ports) (drop l.i l.dp.ports)))) ≡ first (flat_map many_mirrors (interfaces_of (l.raw_dp, l.dp)))
