use Rattle.std.proofs.Common.{◌++◌, ap, ◌∙◌, arith}
use Rattle.switch_session.proofs.FrameLemmas.{piece_more, nothing_yet}
use Rattle.switch_session.proofs.pieces.frames_of.Goals as goal

pub loop-piece-init : goal.loop-piece-init
loop-piece-init c =
    let none = nothing_yet c.new-frames.result c.new-rest.result c.new-frames.ensures c.new-rest.ensures in
    record { whole = none.0; each = none.1; ended = none.2 }

pub loop-piece-preserved : goal.loop-piece-preserved
loop-piece-preserved c =
    let taken = c.in_ok-take_frames.ensures in
    let fed = c.in_ok-feed.ensures.ok ∙ ap (λ l. c.loop-piece.rest ++ l) c.as_slice.ensures in
    let now = c.take_frames.new in
    let before = c.loop-piece in
    let whole = piece_more c.args.pieces.now before.piece-index now.stream c.feed.new.self before.frames now.frames c.piece-item.result before.rest (omega arith) c.piece-item.is c.loop-piece.invariant.whole fed taken.whole in
    record { whole = whole; each = taken.each c.loop-piece.invariant.each; ended = taken.ended }
