use Rattle.std.proofs.Common.{◌≡◌, ◌++◌}
use Rattle.of_match.specs.FlowTables.{IsInKeyOrder}
use Rattle.plan_difference.specs.Difference.{difference}
use Rattle.plan_difference.proofs.merge.difference.Given as goal

-- what is still to come is the difference of what is left
abbrev pub invariant-loop-entry : goal.invariant-loop-entry
invariant-loop-entry l = record {
  ordered : IsInKeyOrder l.rest;
  made : l.batch ++ difference l.rest l.entry-iterator ≡ difference l.from l.to;
}
