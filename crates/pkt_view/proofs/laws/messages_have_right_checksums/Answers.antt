use Rattle.pkt_view.proofs.MadeFrames.{message_right}
use Rattle.pkt_view.proofs.laws.messages_have_right_checksums.Goals as goal

pub returns : goal.returns
returns c = message_right
