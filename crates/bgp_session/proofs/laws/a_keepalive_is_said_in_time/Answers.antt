use Rattle.bgp_session.proofs.Timers.{keepalive_in_time}
use Rattle.bgp_session.proofs.laws.a_keepalive_is_said_in_time.Goals as goal

pub returns : goal.returns
returns c = keepalive_in_time
