use Rattle.law_rules.proofs.Counts.{one_length}
use Rattle.law_rules.proofs.limits.things_have_one_number.Goals as goal

pub returns : goal.returns
returns g c = λ xs ys a b same. one_length xs ys a b (λ x. (same x).0) (λ x. (same x).1)
