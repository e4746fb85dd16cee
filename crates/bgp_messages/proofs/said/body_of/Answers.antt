use Rattle.std.proofs.Common.{length, ap, arith, length-append}
use Rattle.bgp_messages.specs.Said.{body_said}
use Rattle.bgp_messages.proofs.SaidLengths.{said_is_short}
use Rattle.bgp_messages.proofs.said.body_of.Goals as goal

pub returns-clause-few : goal.returns-clause-few
returns-clause-few c =
    let said = c.args.said.now in
    omega (arith, ap length c.in_ok-put_body.ensures, ap length c.new-body.ensures, length-append c.new-body.result (body_said said), said_is_short said)
