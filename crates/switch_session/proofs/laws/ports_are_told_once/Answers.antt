use Rattle.switch_session.proofs.ToldLemmas.{leads_keeps}
use Rattle.switch_session.proofs.laws.ports_are_told_once.Goals as goal

pub returns : goal.returns
returns c = leads_keeps
