use Rattle.bgp_session.proofs.Closing.{update_taken}
use Rattle.bgp_session.proofs.laws.updates_are_taken_once_established.Goals as goal

pub returns : goal.returns
returns c = update_taken
