use Rattle.switch_session.proofs.StageLemmas.{leads_moves}
use Rattle.switch_session.proofs.laws.a_stage_moves_by_what_it_awaits.Goals as goal

pub returns : goal.returns
returns c = leads_moves
