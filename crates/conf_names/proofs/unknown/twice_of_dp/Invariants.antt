use Rattle.std.proofs.Common.{◌≡◌, drop}
use Rattle.conf_rules.specs.Names.{twice_of_port}
use Rattle.conf_rules.specs.Places.{first}
use Rattle.std.specs.List.{flat_map}
use Rattle.conf_names.proofs.unknown.twice_of_dp.Given as goal

-- none so far breaks the rule
abbrev pub invariant-loop-port : goal.invariant-loop-port
invariant-loop-port l = first (flat_map (twice_of_port l.ordered l.dp) (drop l.port-index l.dp.ports)) ≡ first (flat_map (twice_of_port l.ordered l.dp) l.dp.ports)
