use Rattle.of_wire.proofs.Written.{match_written, match_seen_written, actions_written, instrs_written}
use Rattle.of_wire.proofs.laws.written_parts_are_spelled.Goals as goal

pub returns-clause-to_a_switch : goal.returns-clause-to_a_switch
returns-clause-to_a_switch c = match_written

pub returns-clause-by_a_switch : goal.returns-clause-by_a_switch
returns-clause-by_a_switch c = match_seen_written

pub returns-clause-actions : goal.returns-clause-actions
returns-clause-actions c = actions_written

pub returns-clause-instrs : goal.returns-clause-instrs
returns-clause-instrs c = instrs_written
