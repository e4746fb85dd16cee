use Rattle.std.proofs.Common.{◌≡◌, take, map}
use Rattle.plan_units.specs.Fixed.{once}
use Rattle.cold_start.proofs.fixed.make_gateways.Given as goal

-- the addresses of the VLANs so far, each once
abbrev pub invariant-loop-vlan : goal.invariant-loop-vlan
invariant-loop-vlan l = l.made ≡ once (map (λ v. v.mac) (take l.vlan-index l.vlans))
