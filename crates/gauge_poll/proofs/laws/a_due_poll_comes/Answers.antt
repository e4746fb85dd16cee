use Rattle.gauge_poll.proofs.DueComes.{due_comes}
use Rattle.gauge_poll.proofs.laws.a_due_poll_comes.Goals as goal

pub returns : goal.returns
returns c = due_comes
