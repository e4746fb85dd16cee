use Rattle.bgp_peer.proofs.Ends.{or_told}
use Rattle.bgp_peer.proofs.laws.a_connection_goes_on_or_its_end_is_told.Goals as goal

pub returns : goal.returns
returns c = or_told
