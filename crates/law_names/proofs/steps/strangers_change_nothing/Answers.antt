use Rattle.law_names.proofs.Strangers.{stranger_closed, stranger_ended, stranger_heard}
use Rattle.law_names.proofs.steps.strangers_change_nothing.Goals as goal

pub returns-clause-closed : goal.returns-clause-closed
returns-clause-closed c = λ cause number w none sound. stranger_closed number w none sound cause

pub returns-clause-ended : goal.returns-clause-ended
returns-clause-ended c = λ cause number w none sound. stranger_ended number w none sound cause

pub returns-clause-heard : goal.returns-clause-heard
returns-clause-heard c = λ m xid number w none sound. stranger_heard number w none sound m xid
