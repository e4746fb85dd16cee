use Rattle.law_names.proofs.Joined.{exact_named, more_named, none_named, through_named}
use Rattle.law_names.proofs.Stepped.{join}
use Rattle.law_names.proofs.laws.names_may_be_joined.Goals as goal

pub returns-clause-none : goal.returns-clause-none
returns-clause-none c = none_named

pub returns-clause-more : goal.returns-clause-more
returns-clause-more c = more_named

pub returns-clause-through : goal.returns-clause-through
returns-clause-through c = through_named

pub returns-clause-exact : goal.returns-clause-exact
returns-clause-exact c = exact_named

pub returns-clause-steps : goal.returns-clause-steps
returns-clause-steps c = join
