use Rattle.conf_shape.proofs.Parsed.{net6_found, net6_not}
use Rattle.conf_shape.proofs.addresses.parse_net6.Goals as goal

pub returns-in-Some-clause-value : goal.returns-in-Some-clause-value
returns-in-Some-clause-value c = net6_found c.args.text.now _ _ c.in-Some.ensures.found

pub returns-in-None-clause-value : goal.returns-in-None-clause-value
returns-in-None-clause-value c = net6_not c.args.text.now c.in-None.ensures.none
