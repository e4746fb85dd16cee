use Rattle.std.proofs.Common.{drop}
use Rattle.gauge_poll.specs.Polls.{Said, poll_dps}
use Rattle.gauge_poll.specs.StandsFor.{Keeps}
use Rattle.gauge_poll.proofs.Keeping.{OnWay}
use Rattle.gauge_poll.proofs.polling.poll_dps.Given as goal

-- what is left leads to the whole
abbrev pub invariant-loop-dp : goal.invariant-loop-dp
invariant-loop-dp l = (s : Said) → Keeps l.fn.known s → OnWay Keeps l.known (poll_dps l.watcher l.place (drop l.dp-index l.watcher.dps)) (poll_dps l.watcher l.place l.watcher.dps s)
