use Rattle.bgp_messages.proofs.Decoding.{decoded_message, decoded_fault}
use Rattle.bgp_messages.proofs.laws.a_body_is_decoded_to_what_it_spells.Goals as goal

pub returns-clause-message : goal.returns-clause-message
returns-clause-message c = decoded_message

pub returns-clause-fault : goal.returns-clause-fault
returns-clause-fault c = decoded_fault
