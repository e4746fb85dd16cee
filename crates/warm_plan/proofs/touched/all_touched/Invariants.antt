use Rattle.std.proofs.Common.{◌≡◌, ◌++◌, List}
use Rattle.std.specs.Prelude.{Contains}
use Rattle.std.specs.List.{AllByRecursion}
use Rattle.of_match.specs.declared.entry.Entry.{Entry}
use Rattle.warm_plan.proofs.touched.all_touched.Given as goal

-- the keys of the entries so far, before those that are left
abbrev pub invariant-loop-entry : goal.invariant-loop-entry
invariant-loop-entry l = (done : List Entry) × (done ++ l.entry-iterator ≡ l.tables) × AllByRecursion (λ e. Contains (l.touched).keys e.key) done
