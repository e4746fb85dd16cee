use Rattle.std.proofs.Common.{length, arith}
use Rattle.of_wire.specs.declared.fault.PartCause.TheVariants.{Short}
use Rattle.of_wire.specs.Answers.{fault_at}
use Rattle.of_wire.proofs.Spelled.{actions_spelled, actions_read}
use Rattle.of_wire.proofs.ActionFaults.{actions_tell_first}
use Rattle.of_wire.proofs.actions.get_actions.Goals as goal

pub returns-clause-spelled : goal.returns-clause-spelled
returns-clause-spelled c = actions_spelled (fault_at (length c.args.bytes.now) Short) 0 c.args.bytes.now c.read_each_action.result (λ i. omega (arith, c.type_inv.bytes i)) c.read_each_action.ensures.exact

pub returns-clause-complete : goal.returns-clause-complete
returns-clause-complete c = actions_read (fault_at (length c.args.bytes.now) Short) 0 c.args.bytes.now c.read_each_action.result c.read_each_action.ensures.exact

pub returns-clause-first : goal.returns-clause-first
returns-clause-first c = actions_tell_first c.args.bytes.now c.read_each_action.result (λ i. omega (arith, c.type_inv.bytes i)) c.read_each_action.ensures.exact
