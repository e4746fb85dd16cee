use Rattle.net_base.proofs.Addresses.{same_ip4}
use Rattle.net_base.proofs.laws.one_ip4.Goals as goal

pub returns : goal.returns
returns c = same_ip4
