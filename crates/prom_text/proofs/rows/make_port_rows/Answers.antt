use Rattle.std.proofs.Common.{rules, arith}
use Rattle.prom_text.proofs.PortsKept.{no_ports, port_passed, port_taken}
use Rattle.prom_text.proofs.RowLaws.{made_port, ports_ended, ports_full}
use Rattle.prom_text.proofs.rows.make_port_rows.Goals as goal
use Rattle.prom_text.proofs.rows.make_port_rows.Goals.{then-not-was+in_ok-make_port_row+in_ok-push, else-not-was}

pub loop-item-init : goal.loop-item-init
loop-item-init c = rw c.new-rows.ensures (no_ports (made_port c.args.dp.now) c.args.items.now c.new-seen.result (λ n. search rules))

pub returns-then-len-eq-MOST_PORTS : goal.returns-then-len-eq-MOST_PORTS
returns-then-len-eq-MOST_PORTS c =
    ports_full c.args.dp.now c.args.items.now c.loop-item.item-index c.loop-item.seen c.loop-item.rows (omega (arith, c.if-len-eq-MOST_PORTS.true, c.len.ensures)) c.loop-item.invariant

pub loop-item-preserved : goal.loop-item-preserved
loop-item-preserved c =
    let make = made_port c.args.dp.now in
    let items = c.args.items.now in
    let i = c.loop-item.item-index in
    let seen = c.loop-item.seen in
    let more = c.see_port.new.seen in
    let rows = c.loop-item.rows in
    let told = c.in_ok-was.ensures in
    elim c.if-not-was.branch [
      | then-not-was+in_ok-make_port_row+in_ok-push w ↦ rw (w.rows-is, w.in_ok-push.ensures.ok)
          (port_taken make items i seen more rows c.loop-item-test.true told.is c.in_ok-was.was' w.in_ok-make_port_row.field-0 told.was w.if-not-was.true
          (λ e. omega (arith, c.if-len-eq-MOST_PORTS.false, c.len.ensures, e)) w.in_ok-make_port_row.ensures c.loop-item.invariant)
      | else-not-was w ↦ rw w.rows-is
          (port_passed make items i seen more rows c.loop-item-test.true told.is c.in_ok-was.was' told.was w.if-not-was.false c.loop-item.invariant)
    ]

pub returns : goal.returns
returns c = ports_ended c.args.dp.now c.args.items.now c.loop-item.item-index c.loop-item.seen c.loop-item.rows c.loop-item-test.false c.loop-item.invariant
