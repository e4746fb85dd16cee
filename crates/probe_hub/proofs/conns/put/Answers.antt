use Rattle.std.proofs.Common.{length, position, ap, ◌∙◌, arith}
use Rattle.probe_hub.specs.Conns.{is_above}
use Rattle.probe_hub.proofs.Places.{put_behind, put_there}
use Rattle.probe_hub.proofs.conns.put.Goals as goal

pub returns-in_default : goal.returns-in_default
returns-in_default c =
    let none = c.in_default.ensures.place ∙ ap (position (is_above c.args.conn.number)) c.as_slice.ensures.value in
    c.in_ok-push.ensures.items ∙ put_behind c.args.conn c.args.conns.now.items none

pub returns : goal.returns
returns c =
    let here = c.in-Some.ensures.place ∙ ap (position (is_above c.args.conn.number)) c.as_slice.ensures.value in
    c.in_ok-insert.ensures.items ∙ put_there c.args.conn c.args.conns.now.items c.in-Some.at here (omega (arith, ap length c.as_slice.ensures.value, c.in-Some.ensures.within))
