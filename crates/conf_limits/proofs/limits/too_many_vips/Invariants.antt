use Rattle.std.proofs.Common.{◌≡◌, drop}
use Rattle.conf_rules.specs.Limits.{many_vips}
use Rattle.conf_rules.specs.Places.{first}
use Rattle.std.specs.List.{flat_map, zip}
use Rattle.conf_limits.proofs.limits.too_many_vips.Given as goal

-- none so far breaks the rule
abbrev pub invariant-loop-i : goal.invariant-loop-i
invariant-loop-i l = first (flat_map many_vips (zip (drop l.i l.ordered.vlans) (drop l.i l.conf.vlans))) ≡ first (flat_map many_vips (zip l.ordered.vlans l.conf.vlans))
