use Rattle.std.proofs.Common.{◌≡◌, drop}
use Rattle.conf_resolve.specs.InOrder.{named_by_dps}
use Rattle.conf_resolve.specs.Added.{with_each}
use Rattle.conf_resolve.proofs.vlans.add_dps.Given as goal

-- what is left completes the list
abbrev pub invariant-loop-dp : goal.invariant-loop-dp
invariant-loop-dp l = with_each l.vlans (named_by_dps (drop l.dp-index l.dps)) ≡ with_each l.fn.vlans (named_by_dps l.dps)
