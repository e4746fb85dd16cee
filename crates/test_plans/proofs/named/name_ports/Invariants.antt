use Rattle.std.proofs.Common.{◌≡◌, ◌++◌, take, map}
use Rattle.conf_types.specs.declared.change.Change.TheVariants as change
use Rattle.test_plans.proofs.named.name_ports.Given as goal

-- those so far
abbrev pub invariant-loop-up : goal.invariant-loop-up
invariant-loop-up l = l.out ≡ l.fn.out ++ map (λ up. change.Port up.dp up.port) (take l.up-index l.ups)
