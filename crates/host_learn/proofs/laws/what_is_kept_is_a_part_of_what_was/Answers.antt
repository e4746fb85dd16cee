use Rattle.host_learn.proofs.KeptParts.{kept_part}
use Rattle.host_learn.proofs.laws.what_is_kept_is_a_part_of_what_was.Goals as goal

pub returns : goal.returns
returns c = kept_part
