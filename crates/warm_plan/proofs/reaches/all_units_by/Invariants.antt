use Rattle.std.proofs.Common.{◌≡◌, take}
use Rattle.warm_plan.specs.Effects.{all_units_by}
use Rattle.warm_plan.proofs.reaches.all_units_by.Given as goal

-- those of the effects so far
abbrev pub invariant-loop-effect : goal.invariant-loop-effect
invariant-loop-effect l = l.made ≡ all_units_by l.conf l.dp l.hosts (take l.effect-index l.effects)
