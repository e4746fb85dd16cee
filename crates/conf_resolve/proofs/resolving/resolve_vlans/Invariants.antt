use Rattle.std.proofs.Common.{◌≡◌, ◌++◌, map, drop}
use Rattle.conf_resolve.specs.Resolved.{vlan_of}
use Rattle.conf_resolve.proofs.resolving.resolve_vlans.Given as goal

-- what is left completes the list
abbrev pub invariant-loop-placed : goal.invariant-loop-placed
invariant-loop-placed l = l.made ++ map (λ v. vlan_of v.vlan) (drop l.placed-index l.vlans) ≡ map (λ v. vlan_of v.vlan) l.vlans
