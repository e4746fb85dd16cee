use Rattle.of_wire.proofs.ActionFaults.{actions_spelled_or_faulty}
use Rattle.of_wire.proofs.InstrFaults.{instrs_spelled_or_faulty}
use Rattle.of_wire.proofs.MatchFaults.{match_spelled_or_faulty}
use Rattle.of_wire.proofs.laws.bytes_are_spelled_or_have_a_first_fault.Goals as goal

pub returns-clause-actions : goal.returns-clause-actions
returns-clause-actions c = actions_spelled_or_faulty

pub returns-clause-instrs : goal.returns-clause-instrs
returns-clause-instrs c = instrs_spelled_or_faulty

pub returns-clause-matches : goal.returns-clause-matches
returns-clause-matches c = match_spelled_or_faulty
