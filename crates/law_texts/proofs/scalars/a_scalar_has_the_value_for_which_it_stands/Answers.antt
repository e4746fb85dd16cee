use Rattle.law_texts.proofs.ScalarLaws.{value_found, value_read, at_found, at_read}
use Rattle.law_texts.proofs.scalars.a_scalar_has_the_value_for_which_it_stands.Goals as goal

pub returns : goal.returns
returns c = record { alone = λ s v. (value_found s v, value_read s v); there = λ s after v. (at_found s after v, at_read s after v) }
