use Rattle.std.proofs.Common.{arith}
use Rattle.conf_shape.proofs.Parsed.{net4_found, net4_not}
use Rattle.conf_shape.proofs.addresses.parse_net4.Goals as goal

pub returns-in-Some-clause-value : goal.returns-in-Some-clause-value
returns-in-Some-clause-value c = net4_found c.args.text.now _ _ (omega arith) (omega arith) c.in-Some.ensures.found

pub returns-in-None-clause-value : goal.returns-in-None-clause-value
returns-in-None-clause-value c = net4_not c.args.text.now c.in-None.ensures.none
