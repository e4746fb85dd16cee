use Rattle.std.proofs.Common.{◌≡◌, ◌++◌, take}
use Rattle.bench_story.specs.Counted.{replies_to}
use Rattle.bench_story.proofs.counted.put_replies.Given as goal

abbrev pub invariant-loop-saying : goal.invariant-loop-saying
invariant-loop-saying l = l.out ≡ l.fn.out ++ replies_to (take l.saying-index l.sayings)
