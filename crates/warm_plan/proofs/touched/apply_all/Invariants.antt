use Rattle.std.proofs.Common.{◌≡◌}
use Rattle.std.specs.Vec.Iter.{into_iter_items}
use Rattle.of_match.specs.Settled.{after_all}
use Rattle.warm_plan.proofs.touched.apply_all.Given as goal

-- what is done so far, and then what is left to do
abbrev pub invariant-loop-command : goal.invariant-loop-command
invariant-loop-command l = after_all l.tables (into_iter_items l.command-iterator) ≡ after_all l.fn.tables l.fn.commands
