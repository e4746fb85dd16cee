use Rattle.std.proofs.Common.{◌≡◌, take}
use Rattle.std.specs.List.{flat_map}
use Rattle.fg_outside.specs.Wrote.{appended}
use Rattle.fg_outside.proofs.line.write_pieces.Given as goal

abbrev pub invariant-loop-piece : goal.invariant-loop-piece
invariant-loop-piece g l = record {
  wrote : g.S.Sink.wrote l.sink ≡ appended (g.S.Sink.wrote l.fn.sink) (flat_map (λ piece. piece.now) (take l.piece-index l.pieces));
  faults : g.S.Sink.faults l.sink ≡ g.S.Sink.faults l.fn.sink;
}
