use Rattle.std.proofs.Common.{◌≡◌, ◌++◌, take, map}
use Rattle.conf_types.specs.declared.change.Change.TheVariants as change
use Rattle.test_plans.proofs.named.name_dps.Given as goal

-- those so far
abbrev pub invariant-loop-dp : goal.invariant-loop-dp
invariant-loop-dp l = l.out ≡ l.fn.out ++ map (change.Dp) (take l.dp-index l.dps)
