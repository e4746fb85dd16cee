use Rattle.law_names.proofs.Stepped.{close_named, ended_named, replace_named, take_named}
use Rattle.law_names.proofs.steps.ends_are_named.Goals as goal

pub returns-clause-closed : goal.returns-clause-closed
returns-clause-closed c = close_named

pub returns-clause-ended : goal.returns-clause-ended
returns-clause-ended c = ended_named

pub returns-clause-replaced : goal.returns-clause-replaced
returns-clause-replaced c = replace_named

pub returns-clause-taken : goal.returns-clause-taken
returns-clause-taken c = take_named
