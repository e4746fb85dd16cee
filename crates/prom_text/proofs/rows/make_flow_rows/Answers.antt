use Rattle.std.proofs.Common.{rules, arith}
use Rattle.prom_text.proofs.RowLaws.{no_flows, flow_passed, flow_taken, flows_ended, flows_full}
use Rattle.prom_text.proofs.rows.make_flow_rows.Goals as goal
use Rattle.prom_text.proofs.rows.make_flow_rows.Goals.{then-not-was+in_ok-make_flow_row+in_ok-push, else-not-was}

pub loop-flow-init : goal.loop-flow-init
loop-flow-init c = rw c.new-rows.ensures (no_flows c.args.dp.now c.args.flows.now c.new-seen.result (λ t. search rules))

pub returns-then-len-eq-MOST_FLOWS : goal.returns-then-len-eq-MOST_FLOWS
returns-then-len-eq-MOST_FLOWS c =
    flows_full c.args.dp.now c.args.flows.now c.loop-flow.flow-index c.loop-flow.seen c.loop-flow.rows (omega (arith, c.if-len-eq-MOST_FLOWS.true, c.len.ensures)) c.loop-flow.invariant

pub loop-flow-preserved : goal.loop-flow-preserved
loop-flow-preserved c =
    let d = c.args.dp.now in
    let flows = c.args.flows.now in
    let i = c.loop-flow.flow-index in
    let x = c.flow-item.result in
    let seen = c.loop-flow.seen in
    let more = c.see_flow.new.seen in
    let rows = c.loop-flow.rows in
    let told = c.in_ok-was.ensures in
    elim c.if-not-was.branch [
      | then-not-was+in_ok-make_flow_row+in_ok-push w ↦ rw (w.rows-is, w.in_ok-push.ensures.ok)
          (flow_taken d flows i x seen more rows c.loop-flow-test.true c.flow-item.is told.fits told.is c.in_ok-was.was' w.in_ok-make_flow_row.field-0 told.was w.if-not-was.true
          (λ e. omega (arith, c.if-len-eq-MOST_FLOWS.false, c.len.ensures, e)) w.in_ok-make_flow_row.ensures c.loop-flow.invariant)
      | else-not-was w ↦ rw w.rows-is
          (flow_passed d flows i x seen more rows c.loop-flow-test.true c.flow-item.is told.fits told.is c.in_ok-was.was' told.was w.if-not-was.false c.loop-flow.invariant)
    ]

pub returns : goal.returns
returns c = flows_ended c.args.dp.now c.args.flows.now c.loop-flow.flow-index c.loop-flow.seen c.loop-flow.rows c.loop-flow-test.false c.loop-flow.invariant
