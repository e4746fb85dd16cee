use Rattle.gauge_poll.specs.Monitoring.{turn}
use Rattle.gauge_drive.proofs.driven.DrivenGaugeMachine.turn.Goals as goal

pub returns-clause-moment : goal.returns-clause-moment
returns-clause-moment c = λ w stands. c.moment-moment.ensures (turn c.args.what.now w) (c.in_ok-sayings.ensures.known w stands)
