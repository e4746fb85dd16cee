use Rattle.std.proofs.Common.{arith}
use Rattle.conf_shape.proofs.Parsed.{ip4_found, ip4_not}
use Rattle.conf_shape.proofs.addresses.parse_ip4.Goals as goal

pub returns-in-Some : goal.returns-in-Some
returns-in-Some c = ip4_found c.args.text.now _ (omega arith) c.in-Some.ensures.found

pub returns-in-None : goal.returns-in-None
returns-in-None c = ip4_not c.args.text.now c.in-None.ensures.none
