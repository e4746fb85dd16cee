use Rattle.law_texts.proofs.ScalarLaws.{key_found, key_read}
use Rattle.law_texts.proofs.scalars.a_scalar_is_the_key_for_which_it_stands.Goals as goal

pub returns : goal.returns
returns c = λ s k. (key_found s k, key_read s k)
