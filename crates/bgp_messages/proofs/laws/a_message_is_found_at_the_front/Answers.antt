use Rattle.bgp_messages.proofs.MessageLaws.{front_is_whole}
use Rattle.bgp_messages.proofs.laws.a_message_is_found_at_the_front.Goals as goal

pub returns : goal.returns
returns c = front_is_whole
