use Rattle.bgp_session.proofs.Closing.{another_stays}
use Rattle.bgp_session.proofs.laws.another_connection_changes_nothing.Goals as goal

pub returns : goal.returns
returns c = another_stays
