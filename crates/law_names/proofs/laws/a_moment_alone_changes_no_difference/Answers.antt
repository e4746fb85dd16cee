use Rattle.law_names.proofs.Moments.{differences_same, reached_same}
use Rattle.law_names.proofs.laws.a_moment_alone_changes_no_difference.Goals as goal

pub returns-clause-differences : goal.returns-clause-differences
returns-clause-differences c = differences_same

pub returns-clause-reach : goal.returns-clause-reach
returns-clause-reach c = reached_same
