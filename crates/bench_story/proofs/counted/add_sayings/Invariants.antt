use Rattle.std.proofs.Common.{◌≡◌, ◌+◌, ◌%◌, ◌^◌, take}
use Rattle.bench_story.specs.Counted.{total}
use Rattle.bench_story.proofs.counted.add_sayings.Given as goal

abbrev pub invariant-loop-saying : goal.invariant-loop-saying
invariant-loop-saying l = l.all ≡ (l.fn.before + total (take l.saying-index l.sayings)) % 2 ^ 32
