use Rattle.bgp_messages.proofs.Worked.{update_spelled}
use Rattle.bgp_messages.proofs.laws.a_worked_update_is_spelled.Goals as goal

pub returns : goal.returns
returns c = update_spelled
