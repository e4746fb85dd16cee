use Rattle.gauge_poll.proofs.Asked.{turn_asks}
use Rattle.gauge_poll.proofs.laws.polls_are_the_requests_that_are_said.Goals as goal

pub returns : goal.returns
returns c = turn_asks
