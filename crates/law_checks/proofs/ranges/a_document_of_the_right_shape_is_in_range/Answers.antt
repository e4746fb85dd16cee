use Rattle.law_checks.proofs.KeyRanges.{document_in_range}
use Rattle.law_checks.proofs.ranges.a_document_of_the_right_shape_is_in_range.Goals as goal

pub returns : goal.returns
returns c = document_in_range
