use Rattle.std.proofs.Common.{length, ◌+◌, ◌-◌, ◌≡◌, ◌≤◌, drop, sum}
use Rattle.pkt_view.specs.Checksum.{words, ones_complement}
use Rattle.pkt_view.proofs.sum.checksum.Given as goal

abbrev pub invariant-loop-at : goal.invariant-loop-at
invariant-loop-at l = record { within : l.at ≤ length l.bytes; total : ones_complement (l.sum + sum (words (drop l.at l.bytes))) ≡ ones_complement (sum (words l.bytes)) }

abbrev pub decreases-loop-at : goal.decreases-loop-at
decreases-loop-at l = length l.bytes - l.at
