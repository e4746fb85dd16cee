use Rattle.of_wire.specs.Faults.{FaultInActions, FaultInInstrs, FaultInMatch}
use Rattle.of_wire.proofs.Told.{one_first}
use Rattle.of_wire.proofs.laws.one_fault_is_the_first.Goals as goal

pub returns-clause-actions : goal.returns-clause-actions
returns-clause-actions c = λ bytes. one_first (FaultInActions bytes)

pub returns-clause-instrs : goal.returns-clause-instrs
returns-clause-instrs c = λ bytes. one_first (FaultInInstrs bytes)

pub returns-clause-matches : goal.returns-clause-matches
returns-clause-matches c = λ strict bytes. one_first (FaultInMatch strict bytes)
