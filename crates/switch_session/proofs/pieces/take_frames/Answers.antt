use Rattle.std.proofs.Common.{◌++◌, ap, ◌∙◌}
use Rattle.std.specs.List.{concat}
use Rattle.switch_session.proofs.FrameLemmas.{one_more, no_more}
use Rattle.switch_session.proofs.pieces.take_frames.Goals as goal

pub loop-frame-preserved : goal.loop-frame-preserved
loop-frame-preserved c =
    let cut = rw c.in-Frame.is at c.next.follows.holds-at-none in
    let more = one_more c.loop-frame.frames _ _ _ c.loop-frame.stream _ c.in_ok-push.ensures.ok c.in_ok-from_slice.ensures cut in
    record { whole = more.0 ∙ c.loop-frame.invariant.whole; each = λ each. more.1 (c.loop-frame.invariant.each each) }

pub returns : goal.returns
returns c =
    let last = no_more c.next.result c.loop-frame.stream _ c.in_default.not-Frame c.next.follows.holds-at-none in
    record {
      whole = ap (λ l. concat c.loop-frame.frames ++ l) last.0 ∙ c.loop-frame.invariant.whole;
      each = c.loop-frame.invariant.each;
      ended = last.1;
    }
