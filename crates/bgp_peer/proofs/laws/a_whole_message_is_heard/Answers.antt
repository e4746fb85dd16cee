use Rattle.bgp_peer.proofs.Whole.{in_a_turn}
use Rattle.bgp_peer.proofs.laws.a_whole_message_is_heard.Goals as goal

pub returns : goal.returns
returns c = in_a_turn
