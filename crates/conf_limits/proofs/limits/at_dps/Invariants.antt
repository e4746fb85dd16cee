use Rattle.std.proofs.Common.{◌≡◌, drop}
use Rattle.conf_rules.specs.Limits.{at_dp}
use Rattle.conf_rules.specs.Places.{first}
use Rattle.std.specs.List.{flat_map, zip}
use Rattle.conf_limits.proofs.limits.at_dps.Given as goal

-- none so far breaks the rule
abbrev pub invariant-loop-i : goal.invariant-loop-i
invariant-loop-i l = first (flat_map (at_dp l.acls l.limit) (zip (drop l.i l.ordered.dps) (drop l.i l.acls.dps))) ≡ first (flat_map (at_dp l.acls l.limit) (zip l.ordered.dps l.acls.dps))
