use Rattle.gauge_poll.proofs.Intervals.{polls_apart}
use Rattle.gauge_poll.proofs.laws.polls_are_an_interval_apart.Goals as goal

pub returns : goal.returns
returns c = polls_apart
