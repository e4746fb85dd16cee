use Rattle.std.proofs.Common.{◌≡◌, ◌<◌, true, length, ap, ◌∙◌, arith}
use Rattle.std.proofs.lemmas.Bool.{lt-ltb}
use Rattle.probe_hub.specs.Conn.{has_waiting}
use Rattle.probe_hub.specs.Frames.{frame_len}
use Rattle.probe_hub.proofs.Ending.{came_cut, came_whole}
use Rattle.probe_hub.proofs.conn.Conn.take_piece.Goals as goal

pub returns-then-branch-clause-came : goal.returns-then-branch-clause-came
returns-then-branch-clause-came c =
    let it = c.args.self.now in
    let some : 0 < length it.peer.waiting = omega (arith, c.len.ensures, c.if-len-eq0.false) in
    let waiting : has_waiting it.peer ≡ true = lt-ltb 0 (length it.peer.waiting) some in
    came_cut c.args.links.now c.args.moment c.args.piece.now it waiting c.append.new.self c.in_ok-append.ensures.ok c.in-Some.len (c.in-Some.ensures.len ∙ ap frame_len c.as_slice.ensures)
    c.end_frame.new.self _ c.in_ok-end_frame.ensures.ended c.if-branch.true c.len-begun.result _ c.len-begun.ensures c.saturating_sub.ensures

pub returns-else-branch-clause-came : goal.returns-else-branch-clause-came
returns-else-branch-clause-came c =
    let it = c.args.self.now in
    let some : 0 < length it.peer.waiting = omega (arith, c.len.ensures, c.if-len-eq0.false) in
    let waiting : has_waiting it.peer ≡ true = lt-ltb 0 (length it.peer.waiting) some in
    came_whole c.args.links.now c.args.moment c.args.piece.now it waiting c.append.new.self c.in_ok-append.ensures.ok c.in-Some.len (c.in-Some.ensures.len ∙ ap frame_len c.as_slice.ensures)
    c.end_frame.new.self _ c.in_ok-end_frame.ensures.ended c.if-branch.false
