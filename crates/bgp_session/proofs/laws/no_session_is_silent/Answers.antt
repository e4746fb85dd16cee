use Rattle.bgp_session.proofs.Silence.{not_over, not_quiet}
use Rattle.bgp_session.proofs.laws.no_session_is_silent.Goals as goal

pub returns-clause-heard : goal.returns-clause-heard
returns-clause-heard c = not_over

pub returns-clause-said : goal.returns-clause-said
returns-clause-said c = not_quiet
