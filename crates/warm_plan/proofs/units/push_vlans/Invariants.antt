use Rattle.std.proofs.Common.{◌≡◌, ◌++◌, take, map}
use Rattle.plan_units.specs.declared.unit.Unit.TheVariants as unit
use Rattle.warm_plan.proofs.units.push_vlans.Given as goal

-- the units of those so far
abbrev pub invariant-loop-vlan : goal.invariant-loop-vlan
invariant-loop-vlan l = l.out ≡ l.fn.out ++ map (λ v. unit.Vlan v.vid) (take l.vlan-index l.vlans)
