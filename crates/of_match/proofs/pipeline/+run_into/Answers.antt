use Rattle.std.proofs.Common.{◌≡◌, ◌++◌, sym, ap, ◌∙◌, arith, append-nil, append_assoc}
use Rattle.of_match.specs.Act.{act_left, act_sends}
use Rattle.of_match.specs.Pipeline.{actions_of, next_table}
use Rattle.of_match.proofs.Allowed.{run_misses, run_stops, run_goes, ends_here, stays_here, goes_there}
use Rattle.of_match.proofs.pipeline.+run_into.Goals as goal

-- no entry takes the packet
pub returns-in_default : goal.returns-in_default
returns-in_default t c =
    let outs = c.args.outs.now in
    sym (ap (λ l. outs ++ l) (run_misses c.args.tables.now c.args.port c.args.table c.args.packet (omega arith) c.in_default.ensures) ∙ append-nil outs)

-- an action ends it
pub returns-in_default-2 : goal.returns-in_default-2
returns-in_default-2 t c =
    let e = c.in-Some.entry.now in
    let p = c.args.packet in
    let left = sym c.in_default-2.is ∙ c.in_ok-left.ensures.left ∙ ap (λ l. act_left (actions_of l) p) c.as_slice.ensures in
    c.in_ok-left.ensures.sent ∙ ap (λ l. c.args.outs.now ++ act_sends (actions_of l) c.args.port p) c.as_slice.ensures
    ∙ sym (ap (λ l. c.args.outs.now ++ l) (run_stops c.args.tables.now c.args.port c.args.table p e (omega arith) c.in-Some.ensures (ends_here e c.args.table p left)))

-- no instruction leads on
pub returns-in-None : goal.returns-in-None
returns-in-None t c =
    let e = c.in-Some.entry.now in
    let p = c.args.packet in
    let left = sym c.in-Some-2.is ∙ c.in_ok-left.ensures.left ∙ ap (λ l. act_left (actions_of l) p) c.as_slice.ensures in
    let next = c.in-None.ensures ∙ ap (λ l. next_table l c.args.table) c.as_slice-2.ensures in
    c.in_ok-left.ensures.sent ∙ ap (λ l. c.args.outs.now ++ act_sends (actions_of l) c.args.port p) c.as_slice.ensures
    ∙ sym (ap (λ l. c.args.outs.now ++ l) (run_stops c.args.tables.now c.args.port c.args.table p e (omega arith) c.in-Some.ensures (stays_here e c.args.table p c.in-Some-2.left left next)))

-- it goes on to the next table
pub returns-in-Some-next_table : goal.returns-in-Some-next_table
returns-in-Some-next_table t c =
    let e = c.in-Some.entry.now in
    let p = c.args.packet in
    let left = sym c.in-Some-2.is ∙ c.in_ok-left.ensures.left ∙ ap (λ l. act_left (actions_of l) p) c.as_slice.ensures in
    let next = c.in-Some-next_table.ensures ∙ ap (λ l. next_table l c.args.table) c.as_slice-2.ensures in
    let on = run_goes c.args.tables.now c.args.port c.args.table p e c.in-Some-next_table.next c.in-Some-2.left (omega arith) c.in-Some.ensures (goes_there e c.args.table p c.in-Some-2.left c.in-Some-next_table.next left next) in
    let sent : c.act_instrs.new.outs ≡ c.args.outs.now ++ act_sends (actions_of e.instrs) c.args.port p = c.in_ok-left.ensures.sent ∙ ap (λ l. c.args.outs.now ++ act_sends (actions_of l) c.args.port p) c.as_slice.ensures in
    rw (on, ← append_assoc, ← sent) c.run_into.ensures
