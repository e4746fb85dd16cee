use Rattle.std.proofs.Common.{◌≡◌, Ok, rules, arith}
use Rattle.prom_text.proofs.Kept.{it_port, ports_ended, ports_full}
use Rattle.prom_text.proofs.PortsKept.{no_ports, port_at, port_passed, port_taken}
use Rattle.prom_text.proofs.counted.counted_ports.Goals as goal
use Rattle.prom_text.proofs.counted.counted_ports.Goals.{then-not-was+in_ok-copy+in_ok-push, else-not-was}

pub loop-item-init : goal.loop-item-init
loop-item-init c = rw c.new-made.ensures (no_ports it_port c.args.items.now c.new-seen.result (λ n. search rules))

pub returns-then-len-eq-MOST_PORTS : goal.returns-then-len-eq-MOST_PORTS
returns-then-len-eq-MOST_PORTS c =
    ports_full c.args.items.now c.loop-item.item-index c.loop-item.seen c.loop-item.made (omega (arith, c.if-len-eq-MOST_PORTS.true, c.len.ensures)) c.loop-item.invariant

pub loop-item-preserved : goal.loop-item-preserved
loop-item-preserved c =
    let items = c.args.items.now in
    let i = c.loop-item.item-index in
    let seen = c.loop-item.seen in
    let more = c.see_port.new.seen in
    let made = c.loop-item.made in
    let told = c.in_ok-was.ensures in
    elim c.if-not-was.branch [
      | then-not-was+in_ok-copy+in_ok-push w ↦
          let copied : Ok w.in_ok-copy.field-0 ≡ Ok (port_at items i) = w.in_ok-copy.ensures in
          let same : w.in_ok-copy.field-0 ≡ port_at items i = cc in
          rw (w.made-is, w.in_ok-push.ensures.ok)
          (port_taken it_port items i seen more made c.loop-item-test.true told.is c.in_ok-was.was' w.in_ok-copy.field-0 told.was w.if-not-was.true
          (λ e. omega (arith, c.if-len-eq-MOST_PORTS.false, c.len.ensures, e)) same c.loop-item.invariant)
      | else-not-was w ↦ rw w.made-is
          (port_passed it_port items i seen more made c.loop-item-test.true told.is c.in_ok-was.was' told.was w.if-not-was.false c.loop-item.invariant)
    ]

pub returns : goal.returns
returns c = ports_ended c.args.items.now c.loop-item.item-index c.loop-item.seen c.loop-item.made c.loop-item-test.false c.loop-item.invariant
