use Rattle.std.proofs.Common.{◌≡◌, drop}
use Rattle.conf_rules.specs.Names.{unknown_acls_of_port}
use Rattle.conf_rules.specs.Places.{first}
use Rattle.std.specs.List.{flat_map}
use Rattle.conf_names.proofs.unknown.unknown_acls_of_dp.Given as goal

-- none so far breaks the rule
abbrev pub invariant-loop-port : goal.invariant-loop-port
invariant-loop-port l = first (flat_map (unknown_acls_of_port l.acls l.dp) (drop l.port-index l.dp.ports)) ≡ first (flat_map (unknown_acls_of_port l.acls l.dp) l.dp.ports)
