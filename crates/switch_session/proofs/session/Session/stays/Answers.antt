use Rattle.std.proofs.Common.{◌≡◌, sym, subst, ◌∙◌}
use Rattle.switch_session.specs.Connections.{Connection}
use Rattle.switch_session.specs.Stages.{leads}
use Rattle.switch_session.proofs.StayLemmas.{left}
use Rattle.switch_session.proofs.session.Session.stays.Goals as goal

pub returns-clause-left : goal.returns-clause-left
returns-clause-left c = λ is.
    let m = c.args.message.now in
    subst (λ (s : Connection). (leads s.state m c.args.xid).0 ≡ s.state) c.self.view_is (left c.self.inside.state m c.args.xid (sym c.leaves.ensures ∙ is))
