use Rattle.std.proofs.Common.{◌≡◌, ◌++◌, length}
use Rattle.plan_difference.specs.Difference.{deletes}
use Rattle.plan_difference.proofs.merge.push_deletes.Given as goal

-- the deletes so far, and then those of what is left
abbrev pub invariant-loop-gone : goal.invariant-loop-gone
invariant-loop-gone l = l.batch ++ deletes l.from ≡ l.fn.batch ++ deletes l.fn.from

abbrev pub decreases-loop-gone : goal.decreases-loop-gone
decreases-loop-gone l = length l.from
