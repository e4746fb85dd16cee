use Rattle.std.proofs.Common.{◌≡◌, drop}
use Rattle.conf_rules.specs.Limits.{many_rules_on_vlan}
use Rattle.conf_rules.specs.Places.{first}
use Rattle.std.specs.List.{flat_map, zip}
use Rattle.conf_limits.proofs.limits.many_rules_on_vlans.Given as goal

-- none so far breaks the rule
abbrev pub invariant-loop-i : goal.invariant-loop-i
invariant-loop-i l = first (flat_map (many_rules_on_vlan l.acls) (zip (drop l.i l.ordered.vlans) (drop l.i l.acls.vlans))) ≡ first (flat_map (many_rules_on_vlan l.acls) (zip l.ordered.vlans l.acls.vlans))
