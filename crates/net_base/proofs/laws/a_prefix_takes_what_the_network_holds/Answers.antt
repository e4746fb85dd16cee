use Rattle.std.proofs.Common.{◌-◌, arith}
use Rattle.net_base.proofs.Prefixes.{agree_above}
use Rattle.net_base.proofs.laws.a_prefix_takes_what_the_network_holds.Goals as goal

pub returns : goal.returns
returns c = λ width id ip net len ip_fits net_fits short. agree_above width (width - len) ip net (omega arith) ip_fits net_fits
