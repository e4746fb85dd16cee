use Rattle.law_units.proofs.Told.{reach_told, reach_tells}
use Rattle.law_units.proofs.reach.the_reach_is_told_by_a_test.Goals as goal

pub returns : goal.returns
returns c = λ conf old new d changes u. ((λ is. reach_told conf old new d changes u is), (λ r. reach_tells conf old new d changes u r))
