use Rattle.std.proofs.Common.{◌≡◌, drop}
use Rattle.conf_rules.specs.Limits.{many_rules_on_port}
use Rattle.conf_rules.specs.Places.{first, interfaces_of, interfaces}
use Rattle.std.specs.List.{flat_map, zip}
use Rattle.conf_limits.proofs.limits.many_rules_on_dps.Given as goal

-- none so far breaks the rule
abbrev pub invariant-loop-i : goal.invariant-loop-i
invariant-loop-i l = first (flat_map (many_rules_on_port l.acls) (flat_map interfaces_of (zip (drop l.i l.ordered.dps) (drop l.i l.acls.dps)))) ≡ first (flat_map (many_rules_on_port l.acls) (interfaces l.ordered l.acls))
