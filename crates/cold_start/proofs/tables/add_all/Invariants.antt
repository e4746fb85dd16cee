use Rattle.std.proofs.Common.{◌≡◌, [], map}
use Rattle.std.specs.Vec.Iter.{into_iter_items}
use Rattle.of_match.specs.declared.entry.Command.TheVariants.{Add}
use Rattle.of_match.specs.Settled.{after_all}
use Rattle.cold_start.proofs.tables.add_all.Given as goal

-- what is added so far, and then what is left to add, is all of it
abbrev pub invariant-loop-entry : goal.invariant-loop-entry
invariant-loop-entry l = after_all l.tables (map Add (into_iter_items l.entry-iterator)) ≡ after_all [] (map Add l.fn.entries)
