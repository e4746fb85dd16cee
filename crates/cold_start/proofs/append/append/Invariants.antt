use Rattle.std.proofs.Common.{◌≡◌, ◌++◌}
use Rattle.std.specs.Vec.Iter.{into_iter_items}
use Rattle.cold_start.proofs.append.append.Given as goal

-- the entries so far, and behind them what is left
abbrev pub invariant-loop-entry : goal.invariant-loop-entry
invariant-loop-entry l = l.out ++ into_iter_items l.entry-iterator ≡ l.fn.out ++ l.fn.entries
