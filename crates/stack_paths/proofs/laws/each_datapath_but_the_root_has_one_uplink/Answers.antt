use Rattle.stack_paths.proofs.LawLemmas.{root_no_uplink, uplink_exists, uplink_same}
use Rattle.stack_paths.proofs.laws.each_datapath_but_the_root_has_one_uplink.Goals as goal

pub returns-clause-root : goal.returns-clause-root
returns-clause-root c = root_no_uplink

pub returns-clause-exists : goal.returns-clause-exists
returns-clause-exists c = uplink_exists

pub returns-clause-one : goal.returns-clause-one
returns-clause-one c = uplink_same
