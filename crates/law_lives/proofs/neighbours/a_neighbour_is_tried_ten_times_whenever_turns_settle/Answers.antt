use Rattle.law_lives.proofs.Tried.{asked_as_due}
use Rattle.law_lives.proofs.neighbours.a_neighbour_is_tried_ten_times_whenever_turns_settle.Goals as goal

pub returns : goal.returns
returns c = λ conf n before settlings after run off. asked_as_due conf n before settlings after run off
