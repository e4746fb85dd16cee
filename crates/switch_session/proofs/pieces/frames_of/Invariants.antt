use Rattle.std.proofs.Common.{◌≡◌, ◌++◌, take}
use Rattle.std.specs.List.{concat, AllByRecursion}
use Rattle.switch_session.specs.Frames.{IsFrame, HasNoFrame}
use Rattle.switch_session.proofs.pieces.frames_of.Given as goal

abbrev pub invariant-loop-piece : goal.invariant-loop-piece
invariant-loop-piece l = record {
  whole : concat (take l.piece-index l.pieces) ≡ concat l.frames ++ l.rest;
  each : AllByRecursion IsFrame l.frames;
  ended : HasNoFrame l.rest;
}
