use Rattle.law_texts.proofs.DigitLaws.{whole_found, whole_read, none_found, none_read}
use Rattle.law_texts.proofs.NoScalarLaws.{wide_found, wide_read}
use Rattle.law_texts.proofs.scalars.digits_stand_for_whole_numbers.Goals as goal

pub returns : goal.returns
returns c = record { whole = λ text n. (whole_found text n, whole_read text n); none = λ text. (none_found text, none_read text); wide = λ text. (wide_found text, wide_read text) }
