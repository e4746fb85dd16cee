use Rattle.conf_shape.proofs.Made.{found4, found6}
use Rattle.conf_shape.proofs.addresses.net_in.Goals as goal

pub returns-in-Some : goal.returns-in-Some
returns-in-Some c = found6 c.args.width c.args.text.now _ c.if-width-eq128.true c.in-Some.ensures.value

pub returns-in-Some-parse_net4 : goal.returns-in-Some-parse_net4
returns-in-Some-parse_net4 c = found4 c.args.width c.args.text.now _ c.if-width-eq128.false c.in-Some-parse_net4.ensures.value
