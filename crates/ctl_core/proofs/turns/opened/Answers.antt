use Rattle.std.proofs.Common.{Bool, [], Some, ap, subst, sym, ◌∙◌, if◌then◌else◌}
use Rattle.cold_start.specs.Counts.{RisesAtMost}
use Rattle.ctl_world.specs.World.{IsSound, World}
use Rattle.ctl_life.specs.Life.{open_conn}
use Rattle.ctl_settle.specs.Plans.{Fit}
use Rattle.ctl_settle.specs.Touched.{AllFollow}
use Rattle.ctl_settle.proofs.Following.{named_follow}
use Rattle.ctl_settle.proofs.Names.{open_quiet}
use Rattle.ctl_settle.specs.Rest.{AreBounded, AreInOrder}
use Rattle.ctl_settle.proofs.Until.{are_bounded}
use Rattle.ctl_core.specs.Allowed.{settling}
use Rattle.ctl_core.proofs.Bound.{rises_within}
use Rattle.ctl_core.proofs.Settled.{open_bounded}
use Rattle.ctl_core.proofs.Spent.{AreOld, old_opened}
use Rattle.ctl_core.proofs.turns.opened.Goals as goal

pub settle_anew-requires : goal.settle_anew-requires
settle_anew-requires g c =
    let w = c.args.known.now.world in
    let opened = sym c.in_ok-open.ensures in
    record {
      sound = subst IsSound opened (c.what_comes_leaves_it_sound.ensures.opened c.args.conn w c.requires.sound);
      in_order = subst AreInOrder opened (c.what_happens_keeps_connections_in_order.ensures.opened c.args.conn w (sym c.is_open.ensures ∙ c.if-is_open.false) c.requires.in_order);
      follow = subst (λ may. AllFollow c.open.new.world may c.args.known.now.plans) (sym c.nothing.ensures) (subst (λ (v : World). AllFollow v (Some []) c.args.known.now.plans) opened (named_follow w (open_conn c.args.conn w) [] (open_quiet c.args.conn w) c.args.known.now.plans c.requires.follow));
      bounds = subst (AreBounded c.args.known.now.until) opened (open_bounded c.args.conn w c.args.known.now.until (are_bounded w c.args.known.now.until c.requires.until.least));
      fit = subst (λ (v : World). Fit v.conns c.args.known.now.plans) opened (c.what_happens_keeps_the_plans.ensures.opened c.args.conn w c.args.known.now.plans (sym c.is_open.ensures ∙ c.if-is_open.false) c.requires.held);
    }

pub returns-clause-most : goal.returns-clause-most
returns-clause-most g c =
    let k = c.args.known.now in
    let w = k.world in
    let v : World = c.open.new.world in
    let is = c.in_ok-open.ensures in
    let opened = sym is in
    let shut = sym c.is_open.ensures ∙ c.if-is_open.false in
    let a = g.T.Tally.count c.args.units.now in
    let b = g.T.Tally.count c.settle_anew.new.units in
    let rises = rises_within c.what_asks_touch_was_known.ensures.lost c.what_asks_touch_was_known.ensures.named k c.requires v
    (ap (λ (u : World). u.conf) is ∙ (open_quiet c.args.conn w).conf)
    (subst IsSound opened (c.what_comes_leaves_it_sound.ensures.opened c.args.conn w c.requires.sound))
    (subst AreInOrder opened (c.what_happens_keeps_connections_in_order.ensures.opened c.args.conn w shut c.requires.in_order))
    (subst (λ (u : World). Fit u.conns k.plans) opened (c.what_happens_keeps_the_plans.ensures.opened c.args.conn w k.plans shut c.requires.held))
    (subst (λ (u : World). AreOld w.neighbours.neighbours u.neighbours.neighbours) opened (old_opened w c.args.conn))
    c.nothing.result [] c.nothing.ensures tt a b c.settle_anew.ensures.most in
    subst (λ (t : Bool). RisesAtMost (if t then 0 else settling w (open_conn c.args.conn w)) a b) (sym shut) (subst (λ (u : World). RisesAtMost (settling w u) a b) is rises)
