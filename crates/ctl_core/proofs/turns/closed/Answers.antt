use Rattle.std.proofs.Common.{◌≡◌, Bool, Some, ap, subst, sym, ◌∙◌, if◌then◌else◌}
use Rattle.cold_start.specs.Counts.{RisesAtMost}
use Rattle.conf_types.specs.Configuration.{Configuration}
use Rattle.conf_types.specs.State.{IsValidState, State}
use Rattle.ctl_world.specs.World.{IsSound, World, now}
use Rattle.ctl_settle.specs.Plans.{Fit}
use Rattle.ctl_settle.specs.Rest.{AreInOrder}
use Rattle.ctl_settle.specs.Touched.{AllFollow}
use Rattle.ctl_core.specs.Behind.{behind}
use Rattle.switch_session.specs.declared.closing.Closing.{Closing}
use Rattle.ctl_world.specs.Ends.{ended as ended_by}
use Rattle.ctl_life.specs.Life.{closing_for}
use Rattle.ctl_core.specs.Allowed.{settling}
use Rattle.ctl_core.proofs.Bound.{AllDiffer, rises_within}
use Rattle.ctl_core.proofs.Exact.{behind_differs}
use Rattle.ctl_core.proofs.Spent.{AreOld, old_ended}
use Rattle.ctl_core.proofs.NoneNew.{NoneIsNew, behind_follow, ended_new}
use Rattle.ctl_core.proofs.turns.closed.Goals as goal

pub settle_anew-requires : goal.settle_anew-requires
settle_anew-requires g c =
    let w = c.args.known.now.world in
    let v : World = c.end.new.self in
    let plans = c.args.known.now.plans in
    let ended = sym c.in_ok-end.ensures in
    let new : NoneIsNew w v = subst (NoneIsNew w) ended (ended_new w c.closing_for.result c.args.conn) in
    record {
      sound = subst IsSound ended (c.forgetting_what_is_lost_makes_it_sound.ensures.ended c.closing_for.result c.args.conn w c.a_configuration_is_valid.ensures c.requires.sound);
      in_order = subst AreInOrder ended (c.what_happens_keeps_connections_in_order.ensures.ended c.closing_for.result c.args.conn w c.requires.in_order);
      follow = subst (λ may. AllFollow v may plans) (sym c.in_ok-touched.ensures)
          (subst (λ (s : State). AllFollow v (Some (behind v.conf s (now v))) plans) (sym c.in_ok-before.ensures) (behind_follow w v new plans c.requires.follow));
      bounds = tt;
      fit = subst (λ (u : World). Fit u.conns plans) ended (c.what_happens_keeps_the_plans.ensures.ended c.closing_for.result c.args.conn w plans c.requires.held.fit);
    }

pub returns-clause-most : goal.returns-clause-most
returns-clause-most g c =
    let k = c.args.known.now in
    let w = k.world in
    let v : World = c.end.new.self in
    let cause = c.closing_for.result in
    let is : v ≡ ended_by cause c.args.conn w = c.in_ok-end.ensures in
    let ended = sym is in
    let conf : v.conf ≡ w.conf = ap (λ (u : World). u.conf) is in
    let sound : IsSound v = subst IsSound ended (c.forgetting_what_is_lost_makes_it_sound.ensures.ended cause c.args.conn w c.a_configuration_is_valid.ensures c.requires.sound) in
    let told : c.in_ok-touched.touched ≡ Some (behind w.conf (now w) (now v)) = c.in_ok-touched.ensures ∙ (λ i. Some (behind (conf i) (c.in_ok-before.ensures i) (now v))) in
    let all : AllDiffer w v (behind w.conf (now w) (now v)) = behind_differs w.conf (now w) (now v) c.requires.sound.valid (subst (λ (cf : Configuration). IsValidState cf (now v)) conf sound.valid) in
    let open_now = sym c.is_open.ensures ∙ c.if-not-is_open.false in
    let a = g.T.Tally.count c.args.units.now in
    let b = g.T.Tally.count c.settle_anew.new.units in
    let rises = rises_within c.what_asks_touch_was_known.ensures.lost c.what_asks_touch_was_known.ensures.named k c.requires v conf sound
    (subst AreInOrder ended (c.what_happens_keeps_connections_in_order.ensures.ended cause c.args.conn w c.requires.in_order))
    (subst (λ (u : World). Fit u.conns k.plans) ended (c.what_happens_keeps_the_plans.ensures.ended cause c.args.conn w k.plans c.requires.held.fit))
    (subst (λ (u : World). AreOld w.neighbours.neighbours u.neighbours.neighbours) ended (old_ended w cause c.args.conn))
    c.in_ok-touched.touched (behind w.conf (now w) (now v)) told all a b c.settle_anew.ensures.most in
    subst (λ (t : Bool). RisesAtMost (if t then settling w (ended_by (closing_for c.args.cause) c.args.conn w) else 0) a b) (sym open_now)
    (subst (λ (u : World). RisesAtMost (settling w u) a b) (is ∙ ap (λ (x : Closing). ended_by x c.args.conn w) c.closing_for.ensures) rises)
