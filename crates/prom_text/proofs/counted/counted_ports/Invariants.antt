use Rattle.prom_text.proofs.Kept.{it_port}
use Rattle.prom_text.proofs.PortsKept.{PortsSoFar}
use Rattle.prom_text.proofs.counted.counted_ports.Given as goal

abbrev pub invariant-loop-item : goal.invariant-loop-item
invariant-loop-item l = PortsSoFar it_port l.items l.item-index l.seen l.made
