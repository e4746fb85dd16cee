use Rattle.std.proofs.Common.{drop}
use Rattle.gauge_poll.specs.Polls.{Said, poll_due}
use Rattle.gauge_poll.specs.StandsFor.{Keeps}
use Rattle.gauge_poll.proofs.Keeping.{OnWay}
use Rattle.gauge_poll.proofs.polling.poll_due.Given as goal

-- what is left leads to the whole
abbrev pub invariant-loop-place : goal.invariant-loop-place
invariant-loop-place l = (s : Said) → Keeps l.fn.known s → OnWay Keeps l.known (poll_due l.place (drop l.place l.watchers)) (poll_due 0 l.watchers s)
