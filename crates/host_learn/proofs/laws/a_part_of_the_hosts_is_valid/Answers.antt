use Rattle.host_learn.proofs.PartValid.{part_valid}
use Rattle.host_learn.proofs.laws.a_part_of_the_hosts_is_valid.Goals as goal

pub returns : goal.returns
returns c = part_valid
