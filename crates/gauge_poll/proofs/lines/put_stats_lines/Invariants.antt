use Rattle.std.proofs.Common.{◌≡◌, ◌++◌, drop}
use Rattle.gauge_poll.specs.Lines.{stats_lines}
use Rattle.gauge_poll.proofs.lines.put_stats_lines.Given as goal

-- what is left completes the lines
abbrev pub invariant-loop-port : goal.invariant-loop-port
invariant-loop-port l = l.lines ++ stats_lines l.watcher l.moment l.dp (drop l.port-index l.stats) ≡ l.fn.lines ++ stats_lines l.watcher l.moment l.dp l.stats
