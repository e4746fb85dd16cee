use Rattle.net_base.proofs.Addresses.{mac_ok, mac_again}
use Rattle.conf_shape.proofs.laws.a_given_mac_is_spelled.Goals as goal

pub returns : goal.returns
returns c = λ text mac. (mac_ok text mac, mac_again text mac)
