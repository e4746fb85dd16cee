use Rattle.conf_check.proofs.Steps.{accepted_is_valid}
use Rattle.conf_check.proofs.laws.an_accepted_configuration_is_valid.Goals as goal

pub returns : goal.returns
returns c = λ t conf is. accepted_is_valid c.a_document_of_the_right_shape_is_in_range.ensures c.what_breaks_no_rule_is_valid.ensures t conf is
