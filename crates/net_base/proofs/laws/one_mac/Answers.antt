use Rattle.net_base.proofs.Addresses.{same_mac}
use Rattle.net_base.proofs.laws.one_mac.Goals as goal

pub returns : goal.returns
returns c = same_mac
