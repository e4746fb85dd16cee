use Rattle.std.proofs.Common.{subst, sym}
use Rattle.std.proofs.lemmas.Result.{on_ok_weaker}
use Rattle.ctl_world.specs.Connections.{with_fed}
use Rattle.ctl_core.specs.Known.{HasSettled}
use Rattle.ctl_life.specs.Life.{feed}
use Rattle.ctl_core.proofs.Rests.{fed_face, still_settled}
use Rattle.ctl_core.proofs.turns.feed.Goals as goal

pub returns-clause-settled : goal.returns-clause-settled
returns-clause-settled c =
    let k = c.args.known.now in
    let piece = c.args.piece.now in
    on_ok_weaker c.feed.result (λ is. subst (λ cs. HasSettled (record k { world = record k.world { conns = cs } })) (sym is)
    (still_settled c.alike_worlds_rest_alike.ensures.until c.alike_worlds_have_the_same_plans.ensures k (feed c.args.conn piece k.world) c.requires
    (c.what_comes_leaves_it_sound.ensures.fed c.args.conn piece k.world c.requires.sound)
    (c.what_happens_keeps_connections_in_order.ensures.fed c.args.conn piece k.world c.requires.in_order)
    (c.what_is_said_is_alike.ensures.change c.args.conn k.world (with_fed piece k.world.moment) (fed_face piece k.world.moment)))) c.feed.ensures
