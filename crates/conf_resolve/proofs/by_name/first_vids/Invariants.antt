use Rattle.std.proofs.Common.{take}
use Rattle.conf_resolve.specs.Indexed.{LeadToFirst}
use Rattle.conf_resolve.proofs.by_name.first_vids.Given as goal

-- the names so far
abbrev pub invariant-loop-placed : goal.invariant-loop-placed
invariant-loop-placed l = LeadToFirst (λ v. v.vlan.names.name) (λ v. v.vlan.vid) (take l.placed-index l.vlans) l.vids
