use Rattle.std.proofs.Common.{arith, sym, ◌∙◌, append_assoc}
use Rattle.std.proofs.lemmas.List.{take_rest}
use Rattle.of_match.proofs.Runs.{left_first, left_ended, sends_first, sends_ended}
use Rattle.of_match.proofs.pipeline.+act_instrs.Goals as goal

-- the first instruction leaves the packet to the others
pub returns-in-Some-clause-left : goal.returns-in-Some-clause-left
returns-in-Some-clause-left t c =
    let first = left_first c.args.instrs.now c.instr-item.result c.args.packet c.in-Some.left (omega arith) c.instr-item.is (sym c.in-Some.is ∙ c.in_ok-left-in-len1-up.ensures.left) in
    rw (first, ← take_rest c.args.instrs.now 1) c.act_instrs.ensures.left

pub returns-in-Some-clause-sent : goal.returns-in-Some-clause-sent
returns-in-Some-clause-sent t c =
    let first = sends_first c.args.instrs.now c.instr-item.result c.args.port c.args.packet c.in-Some.left (omega arith) c.instr-item.is (sym c.in-Some.is ∙ c.in_ok-left-in-len1-up.ensures.left) in
    rw (first, ← append_assoc, ← c.in_ok-left-in-len1-up.ensures.sent, ← take_rest c.args.instrs.now 1) c.act_instrs.ensures.sent

-- it ends the packet
pub returns-in-None-clause-sent : goal.returns-in-None-clause-sent
returns-in-None-clause-sent t c =
    let first = sends_ended c.args.instrs.now c.instr-item.result c.args.port c.args.packet (omega arith) c.instr-item.is (sym c.in-None.is ∙ c.in_ok-left-in-len1-up.ensures.left) in
    rw first c.in_ok-left-in-len1-up.ensures.sent

pub returns-in-None-clause-left : goal.returns-in-None-clause-left
returns-in-None-clause-left t c =
    sym (left_ended c.args.instrs.now c.instr-item.result c.args.packet (omega arith) c.instr-item.is (sym c.in-None.is ∙ c.in_ok-left-in-len1-up.ensures.left))
