use Rattle.law_names.proofs.Differences.{all_named}
use Rattle.law_names.proofs.laws.all_that_differs_is_named.Goals as goal

pub returns : goal.returns
returns c = all_named
