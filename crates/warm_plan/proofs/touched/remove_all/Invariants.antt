use Rattle.std.proofs.Common.{◌≡◌}
use Rattle.std.specs.Vec.Iter.{into_iter_items}
use Rattle.warm_plan.specs.Parts.{without}
use Rattle.warm_plan.specs.Touched.{KeepTold}
use Rattle.warm_plan.proofs.touched.remove_all.Given as goal

-- what is taken out so far, and then what is left to take out
abbrev pub invariant-loop-key : goal.invariant-loop-key
invariant-loop-key l = record {
  tables : without l.tables (into_iter_items l.key-iterator) ≡ without l.fn.tables l.fn.keys;
  told : KeepTold (l.fn.touched).keys l.fn.tables (l.touched).keys l.tables;
}
