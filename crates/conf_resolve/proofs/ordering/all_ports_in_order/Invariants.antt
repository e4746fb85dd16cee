use Rattle.std.proofs.Common.{◌≡◌, ◌++◌, map, drop}
use Rattle.conf_resolve.specs.InOrder.{ports_in_order}
use Rattle.conf_resolve.proofs.ordering.all_ports_in_order.Given as goal

-- what is left completes the list
abbrev pub invariant-loop-dp : goal.invariant-loop-dp
invariant-loop-dp l = l.made ++ map ports_in_order (drop l.dp-index l.dps) ≡ map ports_in_order l.dps
