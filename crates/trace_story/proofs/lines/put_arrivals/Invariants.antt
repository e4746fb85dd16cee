use Rattle.std.proofs.Common.{◌≡◌, ◌++◌, take}
use Rattle.std.specs.List.{flat_map}
use Rattle.trace_story.specs.Shown.{arrival_line}
use Rattle.trace_story.proofs.lines.put_arrivals.Given as goal

abbrev pub invariant-loop-arrival : goal.invariant-loop-arrival
invariant-loop-arrival l = l.out ≡ l.fn.out ++ flat_map (arrival_line l.conf) (take l.arrival-index l.arrivals)
