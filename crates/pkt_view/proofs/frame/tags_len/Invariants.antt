use Rattle.std.proofs.Common.{length, ◌+◌, ◌-◌, ◌≡◌, ◌*◌, ◌≤◌, drop}
use Rattle.pkt_view.specs.Frame.{tag_count}
use Rattle.pkt_view.proofs.frame.tags_len.Given as goal

abbrev pub invariant-loop-at : goal.invariant-loop-at
invariant-loop-at l = record { within : l.at ≤ length l.bytes; count : l.at + 4 * tag_count (drop l.at l.bytes) ≡ 4 * tag_count l.bytes }

abbrev pub decreases-loop-at : goal.decreases-loop-at
decreases-loop-at l = length l.bytes - l.at
