use Rattle.std.proofs.Common.{◌≡◌, ◌++◌, drop}
use Rattle.prom_text.specs.Blocks.{counter_names, port_name}
use Rattle.gauge_poll.specs.Lines.{counted_lines}
use Rattle.gauge_poll.proofs.lines.put_counted_lines.Given as goal

-- what is left completes the lines
abbrev pub invariant-loop-at : goal.invariant-loop-at
invariant-loop-at l =
    l.lines ++ counted_lines l.watcher l.fn.moment l.dp (port_name l.dp l.port.no) (drop l.at counter_names) (drop l.at l.port.counters)
    ≡ l.fn.lines ++ counted_lines l.watcher l.fn.moment l.dp (port_name l.dp l.port.no) counter_names l.port.counters
