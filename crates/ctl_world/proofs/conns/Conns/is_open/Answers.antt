use Rattle.std.proofs.Common.{is_some, ap, ◌∙◌}
use Rattle.ctl_world.proofs.Ordered.{open_found}
use Rattle.ctl_world.proofs.conns.Conns.is_open.Goals as goal

pub returns-in-Some : goal.returns-in-Some
returns-in-Some c = ap is_some c.in-Some.ensures ∙ open_found c.args.number c.args.self.now

pub returns-in-None : goal.returns-in-None
returns-in-None c = ap is_some c.in-None.ensures ∙ open_found c.args.number c.args.self.now
