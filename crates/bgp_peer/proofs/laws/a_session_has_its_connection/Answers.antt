use Rattle.bgp_peer.proofs.Behind.{has_connection}
use Rattle.bgp_peer.proofs.laws.a_session_has_its_connection.Goals as goal

pub returns : goal.returns
returns c = has_connection
