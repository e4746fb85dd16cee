use Rattle.of_wire.proofs.Spelled.{one_action_list, one_instr_list}
use Rattle.of_wire.proofs.laws.bytes_spell_one_list.Goals as goal

pub returns-clause-actions : goal.returns-clause-actions
returns-clause-actions c = one_action_list

pub returns-clause-instrs : goal.returns-clause-instrs
returns-clause-instrs c = one_instr_list
