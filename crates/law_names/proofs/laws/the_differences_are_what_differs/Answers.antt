use Rattle.law_names.proofs.Counted.{differ_exactly}
use Rattle.law_names.proofs.laws.the_differences_are_what_differs.Goals as goal

pub returns : goal.returns
returns c = differ_exactly
