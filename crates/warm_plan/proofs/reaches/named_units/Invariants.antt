use Rattle.std.proofs.Common.{◌≡◌, take}
use Rattle.warm_plan.specs.Effects.{named_units}
use Rattle.warm_plan.proofs.reaches.named_units.Given as goal

-- those of the effects so far
abbrev pub invariant-loop-effect : goal.invariant-loop-effect
invariant-loop-effect l = l.made ≡ named_units (take l.effect-index l.effects)
