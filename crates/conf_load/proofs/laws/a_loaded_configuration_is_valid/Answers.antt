use Rattle.conf_load.proofs.LoadLemmas.{loaded_valid}
use Rattle.conf_load.proofs.laws.a_loaded_configuration_is_valid.Goals as goal

pub returns : goal.returns
returns c = λ held name conf made. loaded_valid c.an_accepted_configuration_is_valid.ensures held name conf made
