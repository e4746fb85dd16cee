use Rattle.law_texts.proofs.KeyLaws.{has_found, has_there}
use Rattle.law_texts.proofs.keys.entries_have_a_key_where_one_has_it.Goals as goal

pub returns : goal.returns
returns c = λ pairs k. (has_found pairs k, has_there pairs k)
