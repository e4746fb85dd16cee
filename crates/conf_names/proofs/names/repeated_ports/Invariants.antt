use Rattle.std.proofs.Common.{◌≡◌, drop}
use Rattle.conf_rules.specs.Names.{repeated_ports_of}
use Rattle.conf_rules.specs.Places.{first}
use Rattle.std.specs.List.{flat_map}
use Rattle.conf_names.proofs.names.repeated_ports.Given as goal

-- none so far breaks the rule
abbrev pub invariant-loop-dp : goal.invariant-loop-dp
invariant-loop-dp l = first (flat_map repeated_ports_of (drop l.dp-index l.ordered.dps)) ≡ first (flat_map repeated_ports_of l.ordered.dps)
