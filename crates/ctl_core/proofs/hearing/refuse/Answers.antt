use Rattle.std.proofs.Common.{◌≡◌, Some, ap, subst, sym, ◌∙◌}
use Rattle.cold_start.specs.Counts.{RisesAtMost}
use Rattle.conf_types.specs.Configuration.{Configuration}
use Rattle.conf_types.specs.State.{IsValidState, State}
use Rattle.switch_session.specs.declared.closing.Closing.TheVariants.{BadFrame}
use Rattle.ctl_world.specs.World.{IsSound, World, now}
use Rattle.ctl_settle.specs.Plans.{Fit}
use Rattle.ctl_settle.specs.Rest.{AreInOrder}
use Rattle.ctl_settle.specs.Touched.{AllFollow}
use Rattle.ctl_core.specs.Behind.{behind}
use Rattle.ctl_world.specs.Ends.{close}
use Rattle.ctl_core.specs.Allowed.{settling}
use Rattle.ctl_core.proofs.Bound.{AllDiffer, rises_within}
use Rattle.ctl_core.proofs.Exact.{behind_differs}
use Rattle.ctl_core.proofs.Spent.{AreOld, old_closed}
use Rattle.ctl_core.proofs.NoneNew.{NoneIsNew, behind_follow, closed_new}
use Rattle.ctl_core.proofs.hearing.refuse.Goals as goal

pub settle_anew-requires : goal.settle_anew-requires
settle_anew-requires g c =
    let w = c.args.known.now.world in
    let v : World = c.close.new.self in
    let plans = c.args.known.now.plans in
    let closed = sym c.in_ok-close.ensures in
    let new : NoneIsNew w v = subst (NoneIsNew w) closed (closed_new w BadFrame c.args.conn) in
    record {
      sound = subst IsSound closed (c.forgetting_what_is_lost_makes_it_sound.ensures.close BadFrame c.args.conn w c.a_configuration_is_valid.ensures c.requires.sound);
      in_order = subst AreInOrder closed (c.what_happens_keeps_connections_in_order.ensures.closed BadFrame c.args.conn w c.requires.in_order);
      follow = subst (λ may. AllFollow v may plans) (sym c.in_ok-touched.ensures)
          (subst (λ (s : State). AllFollow v (Some (behind v.conf s (now v))) plans) (sym c.in_ok-before.ensures) (behind_follow w v new plans c.requires.follow));
      bounds = tt;
      fit = subst (λ (u : World). Fit u.conns plans) closed (c.what_happens_keeps_the_plans.ensures.closed BadFrame c.args.conn w plans c.requires.held.fit);
    }

pub returns-clause-most : goal.returns-clause-most
returns-clause-most g c =
    let k = c.args.known.now in
    let w = k.world in
    let v : World = c.close.new.self in
    let is : v ≡ close BadFrame c.args.conn w = c.in_ok-close.ensures in
    let closed = sym is in
    let conf : v.conf ≡ w.conf = ap (λ (u : World). u.conf) is in
    let sound : IsSound v = subst IsSound closed (c.forgetting_what_is_lost_makes_it_sound.ensures.close BadFrame c.args.conn w c.a_configuration_is_valid.ensures c.requires.sound) in
    let told : c.in_ok-touched.touched ≡ Some (behind w.conf (now w) (now v)) = c.in_ok-touched.ensures ∙ (λ i. Some (behind (conf i) (c.in_ok-before.ensures i) (now v))) in
    let all : AllDiffer w v (behind w.conf (now w) (now v)) = behind_differs w.conf (now w) (now v) c.requires.sound.valid (subst (λ (cf : Configuration). IsValidState cf (now v)) conf sound.valid) in
    let a = g.T.Tally.count c.args.units.now in
    let b = g.T.Tally.count c.settle_anew.new.units in
    subst (λ (u : World). RisesAtMost (settling w u) a b) is
    (rises_within c.what_asks_touch_was_known.ensures.lost c.what_asks_touch_was_known.ensures.named k c.requires v conf sound
    (subst AreInOrder closed (c.what_happens_keeps_connections_in_order.ensures.closed BadFrame c.args.conn w c.requires.in_order))
    (subst (λ (u : World). Fit u.conns k.plans) closed (c.what_happens_keeps_the_plans.ensures.closed BadFrame c.args.conn w k.plans c.requires.held.fit))
    (subst (λ (u : World). AreOld w.neighbours.neighbours u.neighbours.neighbours) closed (old_closed w BadFrame c.args.conn))
    c.in_ok-touched.touched (behind w.conf (now w) (now v)) told all a b c.settle_anew.ensures.most)
