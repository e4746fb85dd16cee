use Rattle.stack_paths.proofs.LawLemmas.{walk_back, distance_same, distance_exists}
use Rattle.stack_paths.proofs.laws.walks_lead_back.Goals as goal

pub returns-clause-back : goal.returns-clause-back
returns-clause-back c = λ s is a b n w. walk_back s is n a b w

pub returns-clause-one_distance : goal.returns-clause-one_distance
returns-clause-one_distance c = distance_same

pub returns-clause-distance : goal.returns-clause-distance
returns-clause-distance c = distance_exists
