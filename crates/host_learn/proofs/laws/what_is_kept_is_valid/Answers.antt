use Rattle.host_learn.proofs.KeptValid.{kept_valid}
use Rattle.host_learn.proofs.laws.what_is_kept_is_valid.Goals as goal

pub returns : goal.returns
returns c = kept_valid
