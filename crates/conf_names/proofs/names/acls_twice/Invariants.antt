use Rattle.std.proofs.Common.{◌≡◌, drop}
use Rattle.conf_rules.specs.Names.{both_of_dp, acls_twice}
use Rattle.conf_rules.specs.Places.{first}
use Rattle.std.specs.List.{flat_map}
use Rattle.conf_names.proofs.names.acls_twice.Given as goal

-- none so far breaks the rule
abbrev pub invariant-loop-dp : goal.invariant-loop-dp
invariant-loop-dp l = first (flat_map both_of_dp (drop l.dp-index l.ordered.dps)) ≡ first (acls_twice l.ordered)
