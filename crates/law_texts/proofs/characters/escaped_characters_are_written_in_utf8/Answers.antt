use Rattle.std.proofs.Common.{refl}
use Rattle.law_texts.proofs.characters.escaped_characters_are_written_in_utf8.Goals as goal

pub returns : goal.returns
returns c = record { one = (refl, refl, refl); two = (refl, refl, refl); three = (refl, refl, refl) }
