use Rattle.std.proofs.Common.{◌+◌, length}
use Rattle.of_wire.specs.Answers.{fault_at}
use Rattle.of_wire.specs.Reading.{instr_step, instrs_at}
use Rattle.of_wire.specs.declared.fault.PartCause.TheVariants.{Short}
use Rattle.of_wire.proofs.Many.{Way}
use Rattle.of_wire.proofs.instructions.read_each_instr.Given as goal

abbrev pub invariant-loop-rest : goal.invariant-loop-rest
invariant-loop-rest l = Way (instr_step (fault_at (l.at + length l.bytes) Short)) (instrs_at l.at l.bytes) l.at l.bytes l.instrs l.place l.rest

abbrev pub decreases-loop-rest : goal.decreases-loop-rest
decreases-loop-rest l = length l.rest
