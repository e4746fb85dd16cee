use Rattle.std.proofs.Common.{◌≡◌, ◌++◌, length}
use Rattle.std.specs.List.{concat, AllByRecursion}
use Rattle.switch_session.specs.Frames.{IsFrame}
use Rattle.switch_session.proofs.pieces.take_frames.Given as goal

abbrev pub invariant-loop-frame : goal.invariant-loop-frame
invariant-loop-frame l = record {
  whole : concat l.frames ++ l.stream ≡ concat l.initial.frames ++ l.initial.stream;
  each : AllByRecursion IsFrame l.initial.frames → AllByRecursion IsFrame l.frames;
}

abbrev pub decreases-loop-frame : goal.decreases-loop-frame
decreases-loop-frame l = length l.stream
