use Rattle.law_turns.proofs.Closed.{turn_closes}
use Rattle.law_turns.proofs.laws.each_closing_of_a_gauge_has_its_cause.Goals as goal

pub returns : goal.returns
returns c = turn_closes
