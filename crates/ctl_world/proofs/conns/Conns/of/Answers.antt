use Rattle.std.proofs.Common.{sym, ap, subst, ◌∙◌}
use Rattle.ctl_world.specs.Connections.{conn_of}
use Rattle.ctl_world.specs.Firsts.{AreFrom}
use Rattle.ctl_world.proofs.Ordered.{from_first, none_first}
use Rattle.ctl_world.proofs.conns.Conns.of.Goals as goal

pub first_from-requires-clause-from : goal.first_from-requires-clause-from
first_from-requires-clause-from c =
    subst (AreFrom c.args.dp c.in-Some.number) (sym c.as_slice.ensures.value)
    (from_first c.self.inside.firsts c.args.dp c.in-Some.number c.in-Some.ensures c.self.inside.conns.items c.self.invariant.begun)

pub returns-in-None : goal.returns-in-None
returns-in-None c =
    sym (none_first c.self.inside.firsts c.args.dp c.in-None.ensures c.self.inside.conns.items c.self.invariant.begun) ∙ ap (λ conns. conn_of conns c.args.dp) c.self.view_is
