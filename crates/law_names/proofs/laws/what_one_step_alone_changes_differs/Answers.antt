use Rattle.law_names.proofs.Alone.{first_alone, second_alone}
use Rattle.law_names.proofs.laws.what_one_step_alone_changes_differs.Goals as goal

pub returns-clause-first : goal.returns-clause-first
returns-clause-first c = first_alone

pub returns-clause-second : goal.returns-clause-second
returns-clause-second c = second_alone
