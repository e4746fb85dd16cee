use Rattle.bgp_texts.proofs.Taken.{accepted_too}
use Rattle.bgp_texts.proofs.laws.what_is_taken_is_accepted.Goals as goal

pub returns : goal.returns
returns c = accepted_too
