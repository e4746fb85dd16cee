use Rattle.bgp_messages.proofs.MessageLaws.{no_longer}
use Rattle.bgp_messages.proofs.laws.no_spelling_begins_another.Goals as goal

pub returns : goal.returns
returns c = no_longer
