use Rattle.std.proofs.Common.{◌≡◌, take}
use Rattle.gauge_drive.specs.Gauge.{joined}
use Rattle.gauge_drive.proofs.driven.joined.Given as goal

abbrev pub invariant-loop-line : goal.invariant-loop-line
invariant-loop-line l = l.bytes ≡ joined (take l.line-index l.lines)
