use Rattle.link_hub.proofs.WriteLemmas.{say_writes, turn_writes}
use Rattle.link_hub.proofs.laws.what_waits_is_written_as_far_as_it_can_be.Goals as goal

pub returns-clause-said : goal.returns-clause-said
returns-clause-said g c = λ poller from old new steps conn piece fresh way step. say_writes g.P.L.Link g.P.Poller old conn piece new step

pub returns-clause-turned : goal.returns-clause-turned
returns-clause-turned g c = λ poller from old new steps turn conn fresh way call running ready. turn_writes g.P.L.Link g.P.Poller old conn turn new call running ready
