use Rattle.std.proofs.Common.{◌≡◌, ◌++◌, take, map}
use Rattle.plan_units.specs.declared.unit.Unit.TheVariants as unit
use Rattle.warm_plan.proofs.units.push_hosts.Given as goal

-- the units of those so far
abbrev pub invariant-loop-host : goal.invariant-loop-host
invariant-loop-host l = l.out ≡ l.fn.out ++ map (λ h. unit.Host h.vid h.mac) (take l.host-index l.hosts)
