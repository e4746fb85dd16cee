use Rattle.std.proofs.Common.{◌≡◌, ◌++◌}
use Rattle.of_match.proofs.tables.TablesTryCopy.copy.Given as goal

-- the entries so far, and then those that are left
abbrev pub invariant-loop-entry : goal.invariant-loop-entry
invariant-loop-entry l = l.made ++ l.entry-iterator ≡ l.self
