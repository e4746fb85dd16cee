use Rattle.net_base.proofs.Groups.{ip6_ok, ip6_again}
use Rattle.conf_shape.proofs.laws.a_given_ip6_is_spelled.Goals as goal

pub returns : goal.returns
returns c = λ text ip. (ip6_ok text ip, ip6_again text ip)
