use Rattle.std.proofs.Common.{rules}
use Rattle.warm_plan.proofs.touched.add_all.Goals as goal

pub loop-entry-preserved : goal.loop-entry-preserved
loop-entry-preserved c = record {
  tables = search rules;
  told = λ from told. c.in_ok-add_one.ensures.told from (c.loop-entry.invariant.told from told);
}
