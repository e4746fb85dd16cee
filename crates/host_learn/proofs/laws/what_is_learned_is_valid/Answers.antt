use Rattle.host_learn.proofs.LearnedValid.{learned_valid}
use Rattle.host_learn.proofs.laws.what_is_learned_is_valid.Goals as goal

pub returns : goal.returns
returns c = learned_valid
