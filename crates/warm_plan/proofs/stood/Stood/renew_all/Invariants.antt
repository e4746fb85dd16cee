use Rattle.std.proofs.Common.{◌≡◌, drop}
use Rattle.warm_plan.specs.Places.{kept_places, all_renewed}
use Rattle.warm_plan.proofs.stood.Stood.renew_all.Given as goal

-- with those that are left, it is with all
abbrev pub invariant-loop-unit : goal.invariant-loop-unit
invariant-loop-unit l = all_renewed l.conf l.dp l.hosts (drop l.unit-index l.units) (kept_places l.self) ≡ all_renewed l.conf l.dp l.hosts l.units (kept_places l.fn.self)
