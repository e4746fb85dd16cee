use Rattle.net_base.proofs.Addresses.{same_net4}
use Rattle.net_base.proofs.laws.one_net4.Goals as goal

pub returns : goal.returns
returns c = same_net4
