use Rattle.bgp_peer.proofs.Timers.{waits}
use Rattle.bgp_peer.proofs.laws.no_timer_runs_before_an_open.Goals as goal

pub returns : goal.returns
returns c = waits
