use Rattle.std.proofs.Common.{◌≡◌, ◌++◌, take}
use Rattle.std.specs.List.{flat_map}
use Rattle.trace_story.specs.Shown.{line_of_sent}
use Rattle.trace_story.proofs.lines.put_sents.Given as goal

abbrev pub invariant-loop-sent : goal.invariant-loop-sent
invariant-loop-sent l = l.out ≡ l.fn.out ++ flat_map line_of_sent (take l.sent-index l.sents)
