use Rattle.bgp_peer.proofs.Timers.{ended}
use Rattle.bgp_peer.proofs.laws.the_hold_timer_ends_a_session.Goals as goal

pub returns : goal.returns
returns c = λ peering story conn moment e. ended peering story moment conn e
