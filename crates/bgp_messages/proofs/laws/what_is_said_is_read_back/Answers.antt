use Rattle.bgp_messages.proofs.MessageLaws.{said_back}
use Rattle.bgp_messages.proofs.laws.what_is_said_is_read_back.Goals as goal

pub returns : goal.returns
returns c = said_back
