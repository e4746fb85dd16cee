use Rattle.std.proofs.Common.{◌≡◌, ◌<◌, false, subst, sym}
use Rattle.std.proofs.lemmas.Result.{on_ok_weaker}
use Rattle.net_base.specs.declared.numbers.Moment.{Moment}
use Rattle.ctl_world.specs.World.{IsSound, World}
use Rattle.ctl_settle.specs.Plans.{Fit}
use Rattle.ctl_settle.specs.Rest.{AreInOrder}
use Rattle.ctl_life.specs.Life.{says}
use Rattle.cold_start.specs.Counts.{RisesAtMost}
use Rattle.ctl_core.specs.Allowed.{settling}
use Rattle.ctl_core.specs.Found.{is_touched, may_differ}
use Rattle.ctl_core.proofs.Bound.{rises_exactly}
use Rattle.ctl_core.proofs.Spent.{AreOld, old_heard}
use Rattle.ctl_core.specs.Known.{IsEarly}
use Rattle.ctl_core.proofs.Telling.{tells_still}
use Rattle.ctl_core.proofs.WhereDue.{may_settle}
use Rattle.ctl_core.proofs.hearing.hear_one.Goals as goal

pub settle_where_due-requires : goal.settle_where_due-requires
settle_where_due-requires g c =
    let k = c.args.known.now in
    let heard = sym c.in_ok-found.ensures.heard in
    may_settle c.alike_worlds_have_the_same_plans.ensures c.alike_worlds_rest_alike.ensures.rest k c.hear_frame.new.world c.in_ok-found.found c.requires c.in_ok-found.ensures.tells
    (subst IsSound heard (c.a_frame_leaves_it_sound.ensures.heard (says c.args.frame.now) c.args.conn k.world c.a_configuration_is_valid.ensures c.requires.sound))
    (subst AreInOrder heard (c.what_happens_keeps_connections_in_order.ensures.heard (says c.args.frame.now) c.args.conn k.world c.requires.in_order))
    (subst (λ (u : World). Fit u.conns k.plans) heard (c.what_happens_keeps_the_plans.ensures.heard (says c.args.frame.now) c.args.conn k.world k.plans c.requires.held.fit))

pub returns-clause-left_out : goal.returns-clause-left_out
returns-clause-left_out g c = λ same early.
    let none : is_touched c.in_ok-found.found ≡ false = c.in_ok-found.ensures.told same in
    let still = tells_still c.args.known.now.world c.hear_frame.new.world c.in_ok-found.found none c.requires.sound c.in_ok-found.ensures.tells in
    c.settle_where_due.ensures.left_out none (subst (λ (m : Moment). m.0 < c.args.known.now.until) (sym still.alike.moment) early)

pub returns-clause-early : goal.returns-clause-early
returns-clause-early g c = λ same early.
    let none : is_touched c.in_ok-found.found ≡ false = c.in_ok-found.ensures.told same in
    let unmoved = tells_still c.args.known.now.world c.hear_frame.new.world c.in_ok-found.found none c.requires.sound c.in_ok-found.ensures.tells in
    let still = subst (λ (m : Moment). m.0 < c.args.known.now.until) (sym unmoved.alike.moment) early in
    on_ok_weaker c.settle_where_due.result (λ _. subst IsEarly (sym (c.settle_where_due.ensures.kept none still)) still) c.settle_where_due.ensures.settled

pub returns-clause-most : goal.returns-clause-most
returns-clause-most g c =
    let k = c.args.known.now in
    let w : World = k.world in
    let v : World = c.hear_frame.new.world in
    let said = says c.args.frame.now in
    let is = c.in_ok-found.ensures.heard in
    let heard = sym is in
    let sound : IsSound v = subst IsSound heard (c.a_frame_leaves_it_sound.ensures.heard said c.args.conn w c.a_configuration_is_valid.ensures c.requires.sound) in
    let exact = c.in_ok-found.ensures.exact c.requires.sound sound in
    let a = g.T.Tally.count c.args.units.now in
    let b = g.T.Tally.count c.settle_where_due.new.units in
    subst (λ (u : World). RisesAtMost (settling w u) a b) is
    (rises_exactly c.what_asks_touch_was_known.ensures.lost c.what_asks_touch_was_known.ensures.named k c.requires v exact.0 sound
    (subst AreInOrder heard (c.what_happens_keeps_connections_in_order.ensures.heard said c.args.conn w c.requires.in_order))
    (subst (λ (u : World). Fit u.conns k.plans) heard (c.what_happens_keeps_the_plans.ensures.heard said c.args.conn w k.plans c.requires.held.fit))
    (subst (λ (u : World). AreOld w.neighbours.neighbours u.neighbours.neighbours) heard (old_heard w said c.args.conn))
    (may_differ v.conf c.in_ok-found.found) exact.1 a b c.settle_where_due.ensures.most)
