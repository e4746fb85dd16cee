use Rattle.std.proofs.Common.{◌≡◌, ◌++◌}
use Rattle.std.specs.List.{flat_map}
use Rattle.plan_difference.specs.Difference.{change_at}
use Rattle.plan_difference.proofs.told.difference_at.Given as goal

-- what is done so far, and then what is to be done at the keys that are left
abbrev pub invariant-loop-key : goal.invariant-loop-key
invariant-loop-key l = l.batch ++ flat_map (change_at l.from l.to) l.key-iterator ≡ flat_map (change_at l.from l.to) (l.keys).keys
