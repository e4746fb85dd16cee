use Rattle.of_wire.proofs.Told.{one_first}
use Rattle.of13_codec.specs.Faults.{FaultInBody}
use Rattle.of13_codec.proofs.DecodeLaws.{frame_spelled_or_faulty}
use Rattle.of13_codec.proofs.laws.frames_are_spelled_or_have_a_first_fault.Goals as goal

pub returns-clause-either : goal.returns-clause-either
returns-clause-either c = frame_spelled_or_faulty

pub returns-clause-one : goal.returns-clause-one
returns-clause-one c = λ kind body. one_first (FaultInBody kind body)
