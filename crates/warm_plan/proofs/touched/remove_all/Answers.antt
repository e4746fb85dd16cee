use Rattle.std.proofs.Common.{rules}
use Rattle.warm_plan.proofs.touched.remove_all.Goals as goal

pub loop-key-preserved : goal.loop-key-preserved
loop-key-preserved c = record {
  tables = search rules;
  told = λ from told. c.in_ok-remove_one.ensures.told from (c.loop-key.invariant.told from told);
}
