use Rattle.std.proofs.Common.{◌-◌}
use Rattle.gauge_poll.specs.Monitoring.{Monitor, hear_frames}
use Rattle.gauge_poll.specs.StandsFor.{KeepsAll}
use Rattle.gauge_poll.proofs.Keeping.{OnWay}
use Rattle.gauge_poll.proofs.hearing.hear_frames.Given as goal

-- what is left to hear leads to the whole
abbrev pub invariant-loop : goal.invariant-loop
invariant-loop l = (m : Monitor) → KeepsAll l.fn.kept m → OnWay KeepsAll l.kept (hear_frames (l.most - l.counter) l.conn) (hear_frames l.most l.conn m)
