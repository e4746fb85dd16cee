use Rattle.neighbour_resolve.proofs.Valid.{due_valid, forgotten_valid, kept_valid, told_valid}
use Rattle.neighbour_resolve.proofs.laws.what_is_left_is_valid.Goals as goal

pub returns : goal.returns
returns c = record {
  told = told_valid;
  due = due_valid;
  forgotten = forgotten_valid;
  kept = kept_valid;
}
