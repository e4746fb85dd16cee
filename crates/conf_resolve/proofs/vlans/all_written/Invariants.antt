use Rattle.std.proofs.Common.{◌≡◌, ◌++◌, map, drop}
use Rattle.conf_resolve.specs.InOrder.{written}
use Rattle.conf_resolve.proofs.vlans.all_written.Given as goal

-- what is left completes the list
abbrev pub invariant-loop-vlan : goal.invariant-loop-vlan
invariant-loop-vlan l = l.made ++ map written (drop l.vlan-index l.vlans) ≡ map written l.vlans
