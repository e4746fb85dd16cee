use Rattle.std.proofs.Common.{sym}
use Rattle.ctl_world.proofs.Ordered.{anew_found, anew_none}
use Rattle.ctl_world.proofs.conns.begin_anew.Goals as goal

pub returns-in-Some : goal.returns-in-Some
returns-in-Some c =
    anew_found c.args.firsts.now c.note.new.firsts c.args.dp (λ d n other is. c.note.ensures.kept d n (c.leave.ensures d n other is)) c.args.conns.now c.in-Some.conn.now c.requires.order
    (sym c.in-Some.ensures) c.note.ensures.noted c.requires.begun

pub returns-in_default : goal.returns-in_default
returns-in_default c = anew_none c.args.firsts.now c.leave.new.firsts c.args.dp c.leave.ensures c.args.conns.now (sym c.in_default.ensures) c.requires.begun
