use Rattle.std.proofs.Common.{◌≡◌, drop}
use Rattle.conf_rules.specs.Limits.{many_mirrors}
use Rattle.conf_rules.specs.Places.{first, interfaces_of, interfaces}
use Rattle.std.specs.List.{flat_map, zip}
use Rattle.conf_limits.proofs.limits.too_many_mirrors.Given as goal

-- none so far breaks the rule
abbrev pub invariant-loop-i : goal.invariant-loop-i
invariant-loop-i l = first (flat_map many_mirrors (flat_map interfaces_of (zip (drop l.i l.ordered.dps) (drop l.i l.conf.dps)))) ≡ first (flat_map many_mirrors (interfaces l.ordered l.conf))
