use Rattle.std.proofs.Common.{◌≡◌, ◌+◌, ◌%◌, ◌^◌, take, sum}
use Rattle.bench_story.proofs.counted.add_bytes.Given as goal

abbrev pub invariant-loop-byte : goal.invariant-loop-byte
invariant-loop-byte l = l.all ≡ (l.fn.before + sum (take l.byte-index l.bytes)) % 2 ^ 32
