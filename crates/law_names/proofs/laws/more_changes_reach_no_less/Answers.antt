use Rattle.law_names.proofs.Counted.{bounded, more_are_reached, reached_by_more}
use Rattle.law_names.proofs.laws.more_changes_reach_no_less.Goals as goal

pub returns-clause-reached : goal.returns-clause-reached
returns-clause-reached c = reached_by_more

pub returns-clause-counted : goal.returns-clause-counted
returns-clause-counted c = more_are_reached

pub returns-clause-bounded : goal.returns-clause-bounded
returns-clause-bounded c = bounded
