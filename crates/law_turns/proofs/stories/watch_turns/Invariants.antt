use Rattle.std.proofs.Common.{take}
use Rattle.gauge_poll.specs.Monitoring.{Monitor, behind}
use Rattle.gauge_poll.specs.StandsFor.{StandsFor}
use Rattle.law_turns.proofs.stories.watch_turns.Given as goal

abbrev pub invariant-loop-what : goal.invariant-loop-what
invariant-loop-what l = (m : Monitor) → StandsFor l.initial.gauge m → StandsFor l.gauge (behind m (take l.what-index l.story))
