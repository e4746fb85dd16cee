use Rattle.std.proofs.Common.{◌≡◌, ◌++◌, length}
use Rattle.of_match.specs.FlowTables.{IsInKeyOrder, entry_at, below, above}
use Rattle.plan_difference.specs.Difference.{deletes}
use Rattle.plan_difference.proofs.merge.push_gone.Given as goal

-- the deletes so far, and then those of what is left before the key; at the key and behind it nothing changes
abbrev pub invariant-loop-gone : goal.invariant-loop-gone
invariant-loop-gone l = record {
  made : l.batch ++ deletes (below l.key l.from) ≡ l.fn.batch ++ deletes (below l.key l.fn.from);
  ordered : IsInKeyOrder l.from;
  here : entry_at l.from l.key ≡ entry_at l.fn.from l.key;
  behind : above l.key l.from ≡ above l.key l.fn.from;
}

abbrev pub decreases-loop-gone : goal.decreases-loop-gone
decreases-loop-gone l = length l.from
