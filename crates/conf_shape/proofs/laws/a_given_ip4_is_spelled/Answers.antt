use Rattle.std.proofs.Common.{ap, ◌∙◌}
use Rattle.net_base.specs.AddressReading.{ip4_of}
use Rattle.net_base.proofs.Addresses.{ip4_ok, ip4_again}
use Rattle.conf_shape.proofs.laws.a_given_ip4_is_spelled.Goals as goal

pub returns : goal.returns
returns c = λ text ip small. ((λ e. (ip4_ok text ip e).0), λ e. ap ip4_of e ∙ ip4_again ip small)
