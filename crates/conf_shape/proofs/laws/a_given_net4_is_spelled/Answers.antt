use Rattle.std.proofs.Common.{ap, ◌∙◌}
use Rattle.net_base.specs.AddressReading.{net4_of}
use Rattle.net_base.proofs.Addresses.{net4_ok, net4_again}
use Rattle.conf_shape.proofs.laws.a_given_net4_is_spelled.Goals as goal

pub returns : goal.returns
returns c = λ text ip len small short. ((λ e. (net4_ok text (ip, len) e).0), λ e. ap net4_of e ∙ net4_again ip len small short)
