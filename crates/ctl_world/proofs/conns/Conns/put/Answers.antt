use Rattle.std.proofs.Common.{sym, subst, ap, ◌∙◌}
use Rattle.std.specs.List.{insert}
use Rattle.ctl_world.specs.Connections.{put, upper_bound}
use Rattle.ctl_world.specs.Firsts.{AreKept}
use Rattle.ctl_world.proofs.Ordered.{put_kept}
use Rattle.ctl_world.proofs.Places.{put_at_bound}
use Rattle.ctl_world.proofs.conns.Conns.put.Goals as goal

pub invariant_of-self-2 : goal.invariant_of-self-2
invariant_of-self-2 c =
    let items = c.self.inside.conns.items in
    let all = c.in_ok-insert.ensures.items ∙ ap (λ n. insert items n c.args.conn) (c.upper_bound-at.ensures.bound ∙ ap (upper_bound c.args.conn.number) c.as_slice.ensures.value) ∙ put_at_bound c.args.conn items in
    subst (λ conns. AreKept conns c.note_any.new.firsts) (sym all)
    (put_kept c.self.inside.firsts c.note_any.new.firsts c.args.conn items c.note_any.ensures.kept c.note_any.ensures.noted c.self.invariant)

pub returns-clause-ok : goal.returns-clause-ok
returns-clause-ok c =
    c.in_ok-insert.ensures.items ∙ ap (λ n. insert c.self.inside.conns.items n c.args.conn) (c.upper_bound-at.ensures.bound ∙ ap (upper_bound c.args.conn.number) c.as_slice.ensures.value)
    ∙ put_at_bound c.args.conn c.self.inside.conns.items ∙ ap (put c.args.conn) c.self.view_is
