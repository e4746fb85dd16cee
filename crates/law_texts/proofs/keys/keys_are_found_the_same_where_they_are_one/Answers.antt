use Rattle.law_texts.proofs.KeyLaws.{key_found, key_same}
use Rattle.law_texts.proofs.keys.keys_are_found_the_same_where_they_are_one.Goals as goal

pub returns : goal.returns
returns c = λ j k. (key_found j k, key_same j k)
