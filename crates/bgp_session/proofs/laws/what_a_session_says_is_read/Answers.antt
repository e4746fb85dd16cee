use Rattle.bgp_session.proofs.Saying.{said_is_read}
use Rattle.bgp_session.proofs.laws.what_a_session_says_is_read.Goals as goal

pub returns : goal.returns
returns c = said_is_read
