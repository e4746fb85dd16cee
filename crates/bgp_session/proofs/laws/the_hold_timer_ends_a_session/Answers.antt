use Rattle.bgp_session.proofs.Timers.{hold_is_over, waits_for_open}
use Rattle.bgp_session.proofs.laws.the_hold_timer_ends_a_session.Goals as goal

pub returns-clause-over : goal.returns-clause-over
returns-clause-over c = hold_is_over

pub returns-clause-waits : goal.returns-clause-waits
returns-clause-waits c = waits_for_open
