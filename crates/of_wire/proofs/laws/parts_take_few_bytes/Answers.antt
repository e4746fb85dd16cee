use Rattle.of_wire.proofs.Bounds.{fields_most, match_most, actions_most, sent_actions_most}
use Rattle.of_wire.proofs.Lengths.{number_length}
use Rattle.of_wire.proofs.laws.parts_take_few_bytes.Goals as goal

pub returns-clause-number : goal.returns-clause-number
returns-clause-number c = number_length

pub returns-clause-fields : goal.returns-clause-fields
returns-clause-fields c = fields_most

pub returns-clause-in_a_match : goal.returns-clause-in_a_match
returns-clause-in_a_match c = match_most

pub returns-clause-actions : goal.returns-clause-actions
returns-clause-actions c = actions_most

pub returns-clause-accepted : goal.returns-clause-accepted
returns-clause-accepted c = sent_actions_most
