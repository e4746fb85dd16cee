use Rattle.net_base.proofs.Groups.{same_net6}
use Rattle.net_base.proofs.laws.one_net6.Goals as goal

pub returns : goal.returns
returns c = same_net6
