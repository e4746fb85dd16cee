use Rattle.bgp_session.proofs.Closing.{by_state}
use Rattle.bgp_session.proofs.laws.what_is_not_awaited_is_refused.Goals as goal

pub returns : goal.returns
returns c = by_state
