use Rattle.std.proofs.Common.{◌≡◌, ℕ, ◌<◌, false, Some, None, List, [], Result, Ok, Err, is_ok, refl, ap, subst, sym, ◌∙◌, arith, if◌then◌else◌}
use Rattle.net_base.specs.declared.numbers.Moment.{Moment}
use Rattle.conf_types.specs.Configuration.{Configuration}
use Rattle.ctl_world.specs.World.{IsSound, World}
use Rattle.ctl_settle.specs.Plans.{Fit}
use Rattle.ctl_settle.specs.Rest.{AreInOrder}
use Rattle.cold_start.specs.Counts.{RisesAtMost}
use Rattle.ctl_settle.specs.Asked.{with_asked}
use Rattle.ctl_settle.specs.Counted.{counted}
use Rattle.ctl_settle.specs.Settling.{ask_all}
use Rattle.ctl_core.specs.declared.found.Found.{Found}
use Rattle.ctl_core.specs.declared.found.Found.TheVariants.{Any, Nothing}
use Rattle.ctl_core.specs.declared.known.Known.{Known}
use Rattle.ctl_core.specs.Allowed.{allowed_anew, reload_allows, settling}
use Rattle.ctl_core.specs.Found.{is_touched, may_differ}
use Rattle.ctl_core.specs.Reloading.{accepted, reload}
use Rattle.ctl_core.proofs.Bound.{anew_settling, rises_within}
use Rattle.ctl_core.proofs.Spent.{AreOld, nothing_new}
use Rattle.ctl_core.proofs.Telling.{tells_still}
use Rattle.ctl_core.proofs.WhereDue.{may_settle}
use Rattle.ctl_core.proofs.turns.reloaded.Goals as goal

pub settle_where_due-requires : goal.settle_where_due-requires
settle_where_due-requires g c =
    let k = c.args.known.now in
    let reloaded = sym c.in_ok-found.ensures.reloaded in
    may_settle c.alike_worlds_have_the_same_plans.ensures c.alike_worlds_rest_alike.ensures.rest k c.reload.new.world c.in_ok-found.found c.requires c.in_ok-found.ensures.tells
    (subst IsSound reloaded (c.a_reload_leaves_it_sound.ensures c.args.text.now k.world c.a_configuration_is_valid.ensures c.requires.sound))
    (subst AreInOrder reloaded (c.what_happens_keeps_connections_in_order.ensures.reloaded c.args.text.now k.world c.requires.in_order))
    (subst (λ (u : World). Fit u.conns k.plans) reloaded (c.what_happens_keeps_the_plans.ensures.reloaded c.args.text.now k.world k.plans c.requires.held.fit))

pub returns-clause-left_out : goal.returns-clause-left_out
returns-clause-left_out g c = λ same early.
    let none : is_touched c.in_ok-found.found ≡ false = c.in_ok-found.ensures.told ∙ same in
    let still = tells_still c.args.known.now.world c.reload.new.world c.in_ok-found.found none c.requires.sound c.in_ok-found.ensures.tells in
    c.settle_where_due.ensures.left_out none (subst (λ (m : Moment). m.0 < c.args.known.now.until) (sym still.alike.moment) early)

-- by what was read: anything may differ, or nothing does
by_read : (k : Known) (w v : World) (found : Found) (a b : ℕ) (read : Result Configuration (List ℕ)) → v ≡ reload read w → found ≡ (if is_ok read then Any else Nothing)
    → RisesAtMost (counted (ask_all v) (with_asked v (may_differ v.conf found)) k.plans) a b → AreInOrder v → Fit v.conns k.plans
    → ((cause : List ℕ) → read ≡ Err cause → RisesAtMost (counted (ask_all v) (with_asked v (Some [])) k.plans) a b → RisesAtMost (settling w v) a b) → RisesAtMost (reload_allows read w) a b
by_read k w v found a b (Ok next) is told most order fit refused =
    let e : counted (ask_all v) (with_asked v (may_differ v.conf found)) k.plans ≡ counted (ask_all v) (with_asked v None) k.plans = ap (λ (f : Found). counted (ask_all v) (with_asked v (may_differ v.conf f)) k.plans) told in
    let anew = anew_settling k.plans v order fit in
    let same = ap (λ (u : World). allowed_anew (ask_all u)) is in
    omega (arith, most, e, anew, same)
by_read k w v found a b (Err cause) is told most order fit refused =
    let e : counted (ask_all v) (with_asked v (may_differ v.conf found)) k.plans ≡ counted (ask_all v) (with_asked v (Some [])) k.plans = ap (λ (f : Found). counted (ask_all v) (with_asked v (may_differ v.conf f)) k.plans) told in
    subst (λ (u : World). RisesAtMost (settling w u) a b) is (refused cause refl (omega (arith, most, e)))

pub returns-clause-most : goal.returns-clause-most
returns-clause-most g c =
    let k = c.args.known.now in
    let w : World = k.world in
    let v : World = c.reload.new.world in
    let is = c.in_ok-found.ensures.reloaded in
    let reloaded = sym is in
    let sound : IsSound v = subst IsSound reloaded (c.a_reload_leaves_it_sound.ensures c.args.text.now w c.a_configuration_is_valid.ensures c.requires.sound) in
    let order : AreInOrder v = subst AreInOrder reloaded (c.what_happens_keeps_connections_in_order.ensures.reloaded c.args.text.now w c.requires.in_order) in
    let fit : Fit v.conns k.plans = subst (λ (u : World). Fit u.conns k.plans) reloaded (c.what_happens_keeps_the_plans.ensures.reloaded c.args.text.now w k.plans c.requires.held.fit) in
    let a = g.T.Tally.count c.args.units.now in
    let b = g.T.Tally.count c.settle_where_due.new.units in
    by_read k w v c.in_ok-found.found a b (accepted c.args.text.now) is c.in_ok-found.ensures.found c.settle_where_due.ensures.most order fit
    (λ cause err most.
    let left : v ≡ reload (Err cause) w = is ∙ ap (λ r. reload r w) err in
    rises_within c.what_asks_touch_was_known.ensures.lost c.what_asks_touch_was_known.ensures.named k c.requires v (ap (λ (u : World). u.conf) left) sound order fit
    (subst (λ (u : World). AreOld w.neighbours.neighbours u.neighbours.neighbours) (sym left) (nothing_new w)) (Some []) [] refl tt a b most)
