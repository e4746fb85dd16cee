use Rattle.law_changes.proofs.Settled.{asks_named, settle_named}
use Rattle.law_changes.proofs.steps.settlings_are_named.Goals as goal

pub returns-clause-asks : goal.returns-clause-asks
returns-clause-asks c = asks_named

pub returns-clause-settled : goal.returns-clause-settled
returns-clause-settled c = settle_named
