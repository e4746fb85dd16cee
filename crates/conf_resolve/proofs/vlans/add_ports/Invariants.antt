use Rattle.std.proofs.Common.{◌≡◌, drop}
use Rattle.std.specs.List.{flat_map}
use Rattle.conf_resolve.specs.InOrder.{of_port}
use Rattle.conf_resolve.specs.Added.{with_each}
use Rattle.conf_resolve.proofs.vlans.add_ports.Given as goal

-- what is left completes the list
abbrev pub invariant-loop-port : goal.invariant-loop-port
invariant-loop-port l = with_each l.vlans (flat_map (of_port l.dp) (drop l.port-index l.ports)) ≡ with_each l.fn.vlans (flat_map (of_port l.dp) l.ports)
