use Rattle.net_base.proofs.Addresses.{mac_spelled}
use Rattle.net_base.proofs.laws.printed_mac.Goals as goal

pub returns : goal.returns
returns c = λ mac six. mac_spelled mac six.count six.each
