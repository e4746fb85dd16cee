use Rattle.fg_outside.proofs.LineLemmas.{front_within, on_err}
use Rattle.fg_outside.proofs.line.write_pieces.Goals as goal

pub returns-in_err-write_all-clause-err : goal.returns-in_err-write_all-clause-err
returns-in_err-write_all-clause-err g c =
    on_err c.from_residual.result (front_within (g.S.Sink.wrote c.args.sink.now) (g.S.Sink.wrote c.loop-piece.sink) (g.S.Sink.wrote c.write_all.new.sink) c.args.pieces.now c.loop-piece.piece-index _ c.as_bytes.result.now c.loop-piece-test.true c.as_bytes.ensures.value c.loop-piece.invariant.wrote c.in_err-write_all.ensures.err)
