use Rattle.std.proofs.Common.{◌≡◌, ◌≤◌, ◌-◌, length, take, drop}
use Rattle.net_base.specs.Address6Reading.{gap_at}
use Rattle.net_base.proofs.Cut.{put_before}
use Rattle.net_base.proofs.address6.gap_at.Given as goal

-- no two colons in a row begin among the first n bytes
abbrev pub invariant-loop-n : goal.invariant-loop-n
invariant-loop-n l = record {
  within : l.n ≤ length l.bytes;
  rest : put_before (take l.n l.bytes) (gap_at (drop l.n l.bytes)) ≡ gap_at l.bytes;
}

abbrev pub decreases-loop-n : goal.decreases-loop-n
decreases-loop-n l = length l.bytes - l.n
