use Rattle.stack_paths.proofs.Firsts.{root_same}
use Rattle.stack_paths.proofs.LawLemmas.{root_shared}
use Rattle.stack_paths.proofs.laws.a_part_has_one_root.Goals as goal

pub returns-clause-one : goal.returns-clause-one
returns-clause-one c = root_same

pub returns-clause-shared : goal.returns-clause-shared
returns-clause-shared c = root_shared
