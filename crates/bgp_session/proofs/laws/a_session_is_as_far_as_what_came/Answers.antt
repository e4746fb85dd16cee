use Rattle.bgp_session.proofs.Coming.{as_far}
use Rattle.bgp_session.proofs.laws.a_session_is_as_far_as_what_came.Goals as goal

pub returns : goal.returns
returns c = as_far
