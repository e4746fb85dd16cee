use Rattle.prom_text.proofs.PortsKept.{PortsSoFar}
use Rattle.prom_text.proofs.RowLaws.{made_port}
use Rattle.prom_text.proofs.rows.make_port_rows.Given as goal

abbrev pub invariant-loop-item : goal.invariant-loop-item
invariant-loop-item l = PortsSoFar (made_port l.dp) l.items l.item-index l.seen l.rows
