use Rattle.yaml_subset.proofs.DigitLaws.{magnitude_is}
use Rattle.yaml_subset.proofs.laws.digits_are_wide_exactly_where_their_number_is.Goals as goal

pub returns : goal.returns
returns c = λ digits base h. magnitude_is digits base 0 h
