use Rattle.std.proofs.Common.{refl}
use Rattle.std.proofs.lemmas.Slice.Eq.{slice_eq-Decides}
use Rattle.net_base.proofs.laws.equal_lists_are_one.Goals as goal

pub returns : goal.returns
returns g c = λ same exact xs ys. slice_eq-Decides exact xs ys _ refl
