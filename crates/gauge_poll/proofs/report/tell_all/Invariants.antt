use Rattle.std.proofs.Common.{◌≡◌, ◌++◌, ℕ, drop}
use Rattle.gauge_poll.specs.Lines.{told_lines}
use Rattle.gauge_poll.specs.Newest.{waits_of}
use Rattle.gauge_poll.specs.Polls.{Said}
use Rattle.gauge_poll.specs.StandsFor.{Lends}
use Rattle.gauge_poll.proofs.Gathering.{so_far}
use Rattle.gauge_poll.proofs.report.tell_all.Given as goal

-- what is left completes the lines and blocks, and those so far wait
abbrev pub invariant-loop-place : goal.invariant-loop-place
invariant-loop-place l =
    ((s : Said) → Lends l.newest l.fn.parts l.report s
    → l.lines ++ told_lines l.place (drop l.place l.watchers) s l.report.conn l.report.told.now l.report.xid l.report.dp.now ≡ l.fn.lines ++ told_lines 0 l.watchers s l.report.conn l.report.told.now l.report.xid l.report.dp.now)
    × ((s : Said) → Lends l.newest l.fn.parts l.report s
    → (c p : ℕ) → waits_of l.parts c p ≡ so_far l.watchers s l.report.conn l.report.told.now l.report.xid (waits_of l.fn.parts) l.place c p)
