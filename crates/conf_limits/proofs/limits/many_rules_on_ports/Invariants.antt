use Rattle.std.proofs.Common.{◌≡◌, drop, [], ◌∷◌}
use Rattle.conf_rules.specs.Limits.{many_rules_on_port}
use Rattle.conf_rules.specs.Places.{first, interfaces_of}
use Rattle.std.specs.List.{flat_map, zip}
use Rattle.conf_limits.proofs.limits.many_rules_on_ports.Given as goal

-- none so far breaks the rule
abbrev pub invariant-loop-i : goal.invariant-loop-i
invariant-loop-i l = first (flat_map (many_rules_on_port l.acls) (flat_map (λ p. record { raw_dp = l.raw_dp; dp = l.dp; raw = p.0; port = p.1 } ∷ []) (zip (drop l.i l.raw_dp.ports) (drop l.i l.dp.ports)))) ≡ first (flat_map (many_rules_on_port l.acls) (interfaces_of (l.raw_dp, l.dp)))
