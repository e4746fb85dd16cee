use Rattle.std.proofs.Common.{arith}
use Rattle.of_wire.proofs.Spelled.{instrs_spelled, instrs_read}
use Rattle.of_wire.proofs.InstrFaults.{instrs_tell_first}
use Rattle.of_wire.proofs.instructions.get_instrs_at.Goals as goal

pub returns-clause-spelled : goal.returns-clause-spelled
returns-clause-spelled c = instrs_spelled c.args.at c.args.bytes.now c.read_each_instr.result (λ i. omega (arith, c.type_inv.bytes i)) c.read_each_instr.ensures.exact

pub returns-clause-complete : goal.returns-clause-complete
returns-clause-complete c = instrs_read c.args.at c.args.bytes.now c.read_each_instr.result c.read_each_instr.ensures.exact

pub returns-clause-first : goal.returns-clause-first
returns-clause-first c = instrs_tell_first c.args.at c.args.bytes.now c.read_each_instr.result (λ i. omega (arith, c.type_inv.bytes i)) c.read_each_instr.ensures.exact
