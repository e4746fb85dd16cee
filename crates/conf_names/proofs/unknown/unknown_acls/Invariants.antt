use Rattle.std.proofs.Common.{◌≡◌, drop}
use Rattle.conf_rules.specs.Names.{unknown_acls_of_dp, unknown_acls}
use Rattle.conf_rules.specs.Places.{first}
use Rattle.std.specs.List.{flat_map}
use Rattle.conf_names.proofs.unknown.unknown_acls.Given as goal

-- none so far breaks the rule
abbrev pub invariant-loop-dp : goal.invariant-loop-dp
invariant-loop-dp l = first (flat_map (unknown_acls_of_dp l.conf) (drop l.dp-index l.ordered.dps)) ≡ first (unknown_acls l.ordered l.conf)
