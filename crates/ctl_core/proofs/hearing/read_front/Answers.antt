use Rattle.std.proofs.Common.{refl, subst, sym}
use Rattle.std.proofs.lemmas.Result.{on_ok_weaker}
use Rattle.ctl_world.specs.Frames.{with_read}
use Rattle.ctl_life.specs.Life.{read}
use Rattle.ctl_core.specs.Known.{HasSettled}
use Rattle.ctl_core.proofs.Rests.{still_settled}
use Rattle.ctl_core.proofs.hearing.read_front.Goals as goal

pub returns-clause-settled : goal.returns-clause-settled
returns-clause-settled c =
    let k = c.args.known.now in
    on_ok_weaker c.next_frame.result (λ is. subst (λ cs. HasSettled (record k { world = record k.world { conns = cs } })) (sym is)
    (still_settled c.alike_worlds_rest_alike.ensures.until c.alike_worlds_have_the_same_plans.ensures k (read c.args.conn k.world) c.requires
    (c.a_frame_leaves_it_sound.ensures.read c.args.conn k.world c.requires.sound)
    (c.what_happens_keeps_connections_in_order.ensures.read c.args.conn k.world c.requires.in_order)
    (c.what_is_said_is_alike.ensures.change c.args.conn k.world with_read (λ d. refl)))) c.next_frame.ensures.rest
