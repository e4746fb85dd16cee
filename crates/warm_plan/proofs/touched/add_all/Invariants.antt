use Rattle.std.proofs.Common.{◌≡◌, map}
use Rattle.std.specs.Vec.Iter.{into_iter_items}
use Rattle.of_match.specs.declared.entry.Command.TheVariants.{Add}
use Rattle.of_match.specs.Settled.{after_all}
use Rattle.warm_plan.specs.Touched.{KeepTold}
use Rattle.warm_plan.proofs.touched.add_all.Given as goal

-- what is added so far, and then what is left to add
abbrev pub invariant-loop-entry : goal.invariant-loop-entry
invariant-loop-entry l = record {
  tables : after_all l.tables (map Add (into_iter_items l.entry-iterator)) ≡ after_all l.fn.tables (map Add l.fn.entries);
  told : KeepTold (l.fn.touched).keys l.fn.tables (l.touched).keys l.tables;
}
