use Rattle.neighbour_resolve.proofs.Schedule.{ten_and_gone}
use Rattle.neighbour_resolve.proofs.laws.a_neighbour_is_asked_ten_times_and_then_is_gone.Goals as goal

pub returns : goal.returns
returns c = record {
  said = λ conf n before answers after first no long. (ten_and_gone conf n before answers after first no long).0;
  gone = λ conf n before answers after first no long. (ten_and_gone conf n before answers after first no long).1;
}
