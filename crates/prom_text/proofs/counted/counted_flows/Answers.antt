use Rattle.std.proofs.Common.{rules, arith}
use Rattle.prom_text.proofs.Kept.{flow_passed, flow_taken, flows_ended, flows_full, no_flows}
use Rattle.prom_text.proofs.counted.counted_flows.Goals as goal
use Rattle.prom_text.proofs.counted.counted_flows.Goals.{then-not-was+in_ok-copy+in_ok-push, else-not-was}

pub loop-flow-init : goal.loop-flow-init
loop-flow-init c = rw c.new-made.ensures (no_flows c.args.flows.now c.new-seen.result (λ t. search rules))

pub returns-then-len-eq-MOST_FLOWS : goal.returns-then-len-eq-MOST_FLOWS
returns-then-len-eq-MOST_FLOWS c =
    flows_full c.args.flows.now c.loop-flow.flow-index c.loop-flow.seen c.loop-flow.made (omega (arith, c.if-len-eq-MOST_FLOWS.true, c.len.ensures)) c.loop-flow.invariant

pub loop-flow-preserved : goal.loop-flow-preserved
loop-flow-preserved c =
    let flows = c.args.flows.now in
    let i = c.loop-flow.flow-index in
    let x = c.flow-item.result in
    let seen = c.loop-flow.seen in
    let more = c.see_flow.new.seen in
    let made = c.loop-flow.made in
    let told = c.in_ok-was.ensures in
    elim c.if-not-was.branch [
      | then-not-was+in_ok-copy+in_ok-push w ↦ rw (w.made-is, w.in_ok-push.ensures.ok)
          (flow_taken flows i x seen more made c.loop-flow-test.true c.flow-item.is told.fits told.is c.in_ok-was.was' w.in_ok-copy.field-0 told.was w.if-not-was.true
          (λ e. omega (arith, c.if-len-eq-MOST_FLOWS.false, c.len.ensures, e)) w.in_ok-copy.ensures c.loop-flow.invariant)
      | else-not-was w ↦ rw w.made-is
          (flow_passed flows i x seen more made c.loop-flow-test.true c.flow-item.is told.fits told.is c.in_ok-was.was' told.was w.if-not-was.false c.loop-flow.invariant)
    ]

pub returns : goal.returns
returns c = flows_ended c.args.flows.now c.loop-flow.flow-index c.loop-flow.seen c.loop-flow.made c.loop-flow-test.false c.loop-flow.invariant
