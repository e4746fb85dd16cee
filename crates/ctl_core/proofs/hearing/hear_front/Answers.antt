use Rattle.std.proofs.Common.{sym, subst, ap, ◌∙◌}
use Rattle.cold_start.specs.Counts.{RisesAtMost}
use Rattle.switch_session.specs.declared.closing.Closing.TheVariants.{BadFrame}
use Rattle.ctl_world.specs.Ends.{close}
use Rattle.ctl_world.specs.World.{World}
use Rattle.ctl_settle.specs.Settling.{settle}
use Rattle.ctl_core.specs.Allowed.{settling}
use Rattle.ctl_core.proofs.hearing.hear_front.Goals as goal

pub returns-in_ok-refuse-in-Bad-clause-heard : goal.returns-in_ok-refuse-in-Bad-clause-heard
returns-in_ok-refuse-in-Bad-clause-heard g c =
    let at = sym c.in_ok-read_front.ensures.front ∙ c.in-Bad.is in
    rw at (c.in_ok-refuse-in-Bad.ensures.refused ∙ ap (λ v. settle (close BadFrame c.args.conn v)) c.in_ok-read_front.ensures.read)

pub returns-in_ok-refuse-in-Bad-clause-most : goal.returns-in_ok-refuse-in-Bad-clause-most
returns-in_ok-refuse-in-Bad-clause-most g c =
    let at = sym c.in_ok-read_front.ensures.front ∙ c.in-Bad.is in
    let a = g.T.Tally.count c.args.units.now in
    let b = g.T.Tally.count c.refuse.new.units in
    rw at (subst (λ (v : World). RisesAtMost (settling v (close BadFrame c.args.conn v)) a b) c.in_ok-read_front.ensures.read c.refuse.ensures.most)

pub returns-in_err-refuse-in-Bad-clause-most : goal.returns-in_err-refuse-in-Bad-clause-most
returns-in_err-refuse-in-Bad-clause-most g c =
    let at = sym c.in_ok-read_front.ensures.front ∙ c.in-Bad.is in
    let a = g.T.Tally.count c.args.units.now in
    let b = g.T.Tally.count c.refuse.new.units in
    rw at (subst (λ (v : World). RisesAtMost (settling v (close BadFrame c.args.conn v)) a b) c.in_ok-read_front.ensures.read c.refuse.ensures.most)
