use Rattle.std.proofs.Common.{◌≡◌, ◌-◌, Some, None, length, take, drop, sym, ap, ◌∙◌, arith}
use Rattle.std.proofs.lemmas.List.{drop-drop, length-drop, take_all}
use Rattle.probe_hub.specs.Conn.{heard_frame}
use Rattle.probe_hub.specs.Frames.{frame_len}
use Rattle.probe_hub.proofs.Hearing.{heard_last, heard_more, left_last, left_more}
use Rattle.probe_hub.proofs.conn.hear_frames.Goals as goal

pub returns-in-None-clause-heard : goal.returns-in-None-clause-heard
returns-in-None-clause-heard c =
    let bytes = c.args.bytes.now in
    let rest = drop c.loop.taken bytes in
    let whole : take (length bytes - c.loop.taken) rest ≡ rest = take_all (length bytes - c.loop.taken) rest (omega (arith, length-drop c.loop.taken bytes)) in
    let none : frame_len rest ≡ None = ap frame_len (sym whole) ∙ sym c.in-None.ensures.len in
    sym (heard_last c.args.links.now c.args.moment (length bytes) c.loop.counter rest c.loop.peer c.loop-test.true none) ∙ c.loop.invariant.heard

pub returns-in-None-clause-left : goal.returns-in-None-clause-left
returns-in-None-clause-left c =
    let bytes = c.args.bytes.now in
    let rest = drop c.loop.taken bytes in
    let whole : take (length bytes - c.loop.taken) rest ≡ rest = take_all (length bytes - c.loop.taken) rest (omega (arith, length-drop c.loop.taken bytes)) in
    let none : frame_len rest ≡ None = ap frame_len (sym whole) ∙ sym c.in-None.ensures.len in
    sym (left_last c.args.links.now c.args.moment (length bytes) c.loop.counter rest c.loop.peer c.loop-test.true none) ∙ c.loop.invariant.left

pub loop-preserved : goal.loop-preserved
loop-preserved c =
    let bytes = c.args.bytes.now in
    let links = c.args.links.now in
    let moment = c.args.moment in
    let i = c.loop.counter in
    let len = c.in-Some.len in
    let rest = drop c.loop.taken bytes in
    let long = length-drop c.loop.taken bytes in
    let whole : take (length bytes - c.loop.taken) rest ≡ rest = take_all (length bytes - c.loop.taken) rest (omega (arith, long)) in
    let frame : frame_len rest ≡ Some len = ap frame_len (sym whole) ∙ sym c.in-Some.ensures.len in
    let heard = c.in_ok-hear_frame-in-Some.ensures ∙ ap (λ l. heard_frame links moment (take len l) c.loop.peer) whole in
    let behind = sym (drop-drop len c.loop.taken bytes) in
    record {
      heard = heard_more links moment (length bytes) i rest c.loop.peer c.loop-test.true len frame c.hear_frame.new.peer heard _ behind ∙ c.loop.invariant.heard;
      left = left_more links moment (length bytes) i rest c.loop.peer c.loop-test.true len frame _ behind ∙ c.loop.invariant.left;
      within = omega (arith, c.in-Some.ensures.within, ap length whole, long, c.loop.invariant.within);
    }
