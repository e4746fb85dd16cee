use Rattle.conf_types.proofs.Reached.{group_is}
use Rattle.conf_types.proofs.laws.a_group_has_the_least_identifier_that_is_joined.Goals as goal

pub returns : goal.returns
returns c = λ conf dp known. group_is conf dp known
