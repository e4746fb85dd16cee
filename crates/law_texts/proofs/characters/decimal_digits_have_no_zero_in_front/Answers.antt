use Rattle.std.proofs.Common.{refl}
use Rattle.law_texts.proofs.characters.decimal_digits_have_no_zero_in_front.Goals as goal

pub returns : goal.returns
returns c = record { zero = refl; some = refl; in_front = refl; letter = refl; nothing = refl; greatest = refl }
