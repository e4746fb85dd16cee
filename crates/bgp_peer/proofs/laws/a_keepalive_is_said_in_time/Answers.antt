use Rattle.bgp_peer.proofs.Timers.{in_time}
use Rattle.bgp_peer.proofs.laws.a_keepalive_is_said_in_time.Goals as goal

pub returns : goal.returns
returns c = λ peering story conn moment e. in_time peering story moment conn e
