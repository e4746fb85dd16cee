use Rattle.std.proofs.Common.{◌≡◌, ◌++◌, take, map}
use Rattle.vlan_compile.specs.Admissions.{from_stack}
use Rattle.vlan_compile.proofs.admissions.push_from_stacks.Given as goal

-- the entries so far are those of the VLANs so far
abbrev pub invariant-loop-vlan : goal.invariant-loop-vlan
invariant-loop-vlan l = l.made ≡ l.fn.made ++ map (from_stack l.port) (take l.vlan-index l.vlans)
