use Rattle.std.proofs.Common.{◌≡◌, drop, take, []}
use Rattle.conf_rules.specs.Names.{repeated_vlan}
use Rattle.conf_rules.specs.Places.{first, with_earlier}
use Rattle.conf_rules.specs.Seen.{HasNumbers, HasNames}
use Rattle.std.specs.List.{flat_map}
use Rattle.conf_names.proofs.names.repeated_vlans.Given as goal

-- none so far breaks the rule, and the numbers and names so far are seen
abbrev pub invariant-loop-placed : goal.invariant-loop-placed
invariant-loop-placed l =
    (first (flat_map repeated_vlan (with_earlier (take l.placed-index l.ordered.vlans) (drop l.placed-index l.ordered.vlans))) ≡ first (flat_map repeated_vlan (with_earlier [] l.ordered.vlans)))
    × HasNumbers l.vids (λ v. v.vlan.vid) (take l.placed-index l.ordered.vlans)
    × HasNames l.names (λ v. v.vlan.names.name) (take l.placed-index l.ordered.vlans)
