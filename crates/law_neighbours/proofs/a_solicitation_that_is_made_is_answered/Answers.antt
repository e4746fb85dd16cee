use Rattle.law_neighbours.proofs.Heard.{solicitation_answered}
use Rattle.law_neighbours.proofs.a_solicitation_that_is_made_is_answered.Goals as goal

pub returns : goal.returns
returns c = solicitation_answered
