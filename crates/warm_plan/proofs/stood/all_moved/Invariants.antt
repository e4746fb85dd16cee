use Rattle.std.proofs.Common.{◌≡◌, take}
use Rattle.warm_plan.specs.Places.{all_moved}
use Rattle.warm_plan.proofs.stood.all_moved.Given as goal

-- those of the changes so far
abbrev pub invariant-loop-change : goal.invariant-loop-change
invariant-loop-change l = l.made ≡ all_moved (take l.change-index l.changes)
