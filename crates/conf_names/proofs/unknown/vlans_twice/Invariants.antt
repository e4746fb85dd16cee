use Rattle.std.proofs.Common.{◌≡◌, drop}
use Rattle.conf_rules.specs.Names.{twice_of_dp}
use Rattle.conf_rules.specs.Places.{first}
use Rattle.std.specs.List.{flat_map}
use Rattle.conf_names.proofs.unknown.vlans_twice.Given as goal

-- none so far breaks the rule
abbrev pub invariant-loop-dp : goal.invariant-loop-dp
invariant-loop-dp l = first (flat_map (twice_of_dp l.ordered) (drop l.dp-index l.ordered.dps)) ≡ first (flat_map (twice_of_dp l.ordered) l.ordered.dps)
