use Rattle.std.proofs.Common.{◌≡◌, drop}
use Rattle.conf_rules.specs.Names.{unknown_acls_of_vlan}
use Rattle.conf_rules.specs.Places.{first}
use Rattle.std.specs.List.{flat_map}
use Rattle.conf_names.proofs.unknown.unknown_acls_of_vlans.Given as goal

-- none so far breaks the rule
abbrev pub invariant-loop-placed : goal.invariant-loop-placed
invariant-loop-placed l = first (flat_map (unknown_acls_of_vlan l.acls) (drop l.placed-index l.vlans)) ≡ first (flat_map (unknown_acls_of_vlan l.acls) l.vlans)
