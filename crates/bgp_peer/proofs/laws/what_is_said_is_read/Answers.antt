use Rattle.bgp_peer.proofs.Spoken.{all_is_read}
use Rattle.bgp_peer.proofs.laws.what_is_said_is_read.Goals as goal

pub returns : goal.returns
returns c = all_is_read
