use Rattle.net_base.proofs.Groups.{same_ip6}
use Rattle.net_base.proofs.laws.one_ip6.Goals as goal

pub returns : goal.returns
returns c = same_ip6
