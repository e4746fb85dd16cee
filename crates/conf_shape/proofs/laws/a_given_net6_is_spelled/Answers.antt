use Rattle.net_base.proofs.Groups.{net6_ok, net6_again}
use Rattle.conf_shape.proofs.laws.a_given_net6_is_spelled.Goals as goal

pub returns : goal.returns
returns c = λ text ip len. (net6_ok text (ip, len), net6_again text ip len)
