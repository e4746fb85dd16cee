use Rattle.switch_session.proofs.ReplyLemmas.{leads_goes, leads_none, leads_stays}
use Rattle.switch_session.proofs.laws.what_is_awaited_goes_with_its_reply.Goals as goal

pub returns : goal.returns
returns c = record { stays = leads_stays; goes = leads_goes; none = leads_none }
