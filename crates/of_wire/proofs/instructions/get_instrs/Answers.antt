use Rattle.of_wire.specs.Faults.{FaultInInstrs}
use Rattle.of_wire.proofs.Told.{told_from_start}
use Rattle.of_wire.proofs.instructions.get_instrs.Goals as goal

pub returns-clause-first : goal.returns-clause-first
returns-clause-first c = told_from_start (FaultInInstrs c.args.bytes.now) c.get_instrs_at.result c.get_instrs_at.ensures.first
