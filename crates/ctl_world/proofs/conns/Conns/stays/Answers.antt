use Rattle.std.proofs.Common.{◌≡◌, Some, subst, ◌∙◌}
use Rattle.switch_session.specs.Stages.{leads}
use Rattle.ctl_world.specs.declared.conns.Conn.{Conn}
use Rattle.ctl_world.proofs.conns.Conns.stays.Goals as goal

pub returns-in-Some-clause-left : goal.returns-in-Some-clause-left
returns-in-Some-clause-left c = λ is conn some.
    let e : Some c.in-Some.conn.now ≡ Some conn = c.in-Some.ensures ∙ some in
    let same : c.in-Some.conn.now ≡ conn = cc in
    subst (λ (d : Conn). (leads d.session.state c.args.message.now c.args.xid).0 ≡ d.session.state) same (c.stays.ensures.left is)
