use Rattle.std.proofs.Common.{◌≡◌, ◌≤◌, ◌-◌, length, take, drop}
use Rattle.net_base.specs.AddressReading.{cut_at}
use Rattle.net_base.proofs.Cut.{put_before}
use Rattle.net_base.proofs.address.cut.Given as goal

-- no mark stands among the first n bytes
abbrev pub invariant-loop-n : goal.invariant-loop-n
invariant-loop-n l = record {
  within : l.n ≤ length l.bytes;
  rest : put_before (take l.n l.bytes) (cut_at l.mark (drop l.n l.bytes)) ≡ cut_at l.mark l.bytes;
}

abbrev pub decreases-loop-n : goal.decreases-loop-n
decreases-loop-n l = length l.bytes - l.n
