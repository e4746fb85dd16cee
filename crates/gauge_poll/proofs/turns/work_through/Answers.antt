use Rattle.gauge_poll.proofs.Monitors.{forgot_kept}
use Rattle.gauge_poll.proofs.turns.work_through.Goals as goal

pub returns : goal.returns
returns c = λ m all.
    let worked = c.in_ok-work.ensures m all in
    record {
      watchers = worked.watchers;
      said = forgot_kept c.work.new.kept.known _ c.forget_closed.new.newest c.forget_closed.new.parts c.forget_closed.ensures.polls c.forget_closed.ensures.waits worked.said;
      lines = worked.lines;
    }
