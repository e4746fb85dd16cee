use Rattle.net_base.proofs.Printed6.{ip6_spelled, net6_spelled}
use Rattle.net_base.proofs.laws.printed_ip6.Goals as goal

pub returns : goal.returns
returns c = record { address = ip6_spelled; network = net6_spelled }
