use Rattle.std.proofs.Common.{◌≡◌, ◌++◌, take, map}
use Rattle.plan_units.specs.declared.unit.Unit.TheVariants as unit
use Rattle.warm_plan.proofs.units.push_ports.Given as goal

-- the units of those so far
abbrev pub invariant-loop-port : goal.invariant-loop-port
invariant-loop-port l = l.out ≡ l.fn.out ++ map (λ i. unit.Port i.no) (take l.port-index l.ports)
