use Rattle.conf_shape.proofs.Parsed.{ip6_found, ip6_not}
use Rattle.conf_shape.proofs.addresses.parse_ip6.Goals as goal

pub returns-in-Some : goal.returns-in-Some
returns-in-Some c = ip6_found c.args.text.now _ c.in-Some.ensures.found

pub returns-in-None : goal.returns-in-None
returns-in-None c = ip6_not c.args.text.now c.in-None.ensures.none
