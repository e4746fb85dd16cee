use Rattle.std.proofs.Common.{◌≡◌, drop}
use Rattle.conf_rules.specs.Names.{both_of_vlan}
use Rattle.conf_rules.specs.Places.{first}
use Rattle.std.specs.List.{flat_map}
use Rattle.conf_names.proofs.names.both_of_vlans.Given as goal

-- none so far breaks the rule
abbrev pub invariant-loop-placed : goal.invariant-loop-placed
invariant-loop-placed l = first (flat_map both_of_vlan (drop l.placed-index l.vlans)) ≡ first (flat_map both_of_vlan l.vlans)
