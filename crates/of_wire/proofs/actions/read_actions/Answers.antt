use Rattle.std.proofs.Common.{arith}
use Rattle.of_wire.proofs.Spelled.{actions_spelled, actions_read}
use Rattle.of_wire.proofs.ActionFaults.{actions_tell_cut}
use Rattle.of_wire.proofs.actions.read_actions.Goals as goal

pub returns-clause-spelled : goal.returns-clause-spelled
returns-clause-spelled c = actions_spelled c.args.past c.args.at c.args.bytes.now c.read_each_action.result (λ i. omega (arith, c.type_inv.bytes i)) c.read_each_action.ensures.exact

pub returns-clause-complete : goal.returns-clause-complete
returns-clause-complete c = actions_read c.args.past c.args.at c.args.bytes.now c.read_each_action.result c.read_each_action.ensures.exact

pub returns-clause-first : goal.returns-clause-first
returns-clause-first c = actions_tell_cut c.args.past c.args.at c.args.bytes.now c.read_each_action.result (λ i. omega (arith, c.type_inv.bytes i)) c.read_each_action.ensures.exact
