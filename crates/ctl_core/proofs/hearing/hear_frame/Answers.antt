use Rattle.std.proofs.Common.{◌≡◌, ◌∙◌, Some, sym, subst}
use Rattle.conf_types.specs.State.{State}
use Rattle.switch_session.specs.declared.closing.Closing.TheVariants.{BadFrame}
use Rattle.ctl_world.specs.World.{World, now}
use Rattle.ctl_settle.specs.Touched.{MayDiffer}
use Rattle.ctl_core.specs.declared.found.Found.TheVariants.{Named}
use Rattle.ctl_core.specs.Behind.{behind}
use Rattle.ctl_core.specs.Found.{Tells}
use Rattle.ctl_core.specs.Told.{IsExact}
use Rattle.ctl_core.proofs.Bound.{behind_exact}
use Rattle.ctl_core.proofs.NoneNew.{NoneIsNew, behind_tells, closed_new}
use Rattle.ctl_core.proofs.hearing.hear_frame.Goals as goal

pub returns-in_ok-touched-in-None-clause-tells : goal.returns-in_ok-touched-in-None-clause-tells
returns-in_ok-touched-in-None-clause-tells c =
    let w : World = c.args.world.now in
    let v : World = c.close.new.self in
    let new : NoneIsNew w v = subst (NoneIsNew w) (sym c.in_ok-close-in-None.ensures) (closed_new w BadFrame c.args.conn) in
    subst (λ (may : MayDiffer). Tells w v (Named may)) (sym c.in_ok-touched-in-None.ensures)
    (subst (λ (s : State). Tells w v (Named (Some (behind v.conf s (now v))))) (sym c.in_ok-before-in-None.ensures) (behind_tells w v new))

pub returns-in_ok-touched-in-None-clause-exact : goal.returns-in_ok-touched-in-None-clause-exact
returns-in_ok-touched-in-None-clause-exact c =
    let w : World = c.args.world.now in
    let v : World = c.close.new.self in
    let new : NoneIsNew w v = subst (NoneIsNew w) (sym c.in_ok-close-in-None.ensures) (closed_new w BadFrame c.args.conn) in
    let told : c.in_ok-touched-in-None.touched ≡ Some (behind v.conf (now w) (now v)) = c.in_ok-touched-in-None.ensures ∙ (λ i. Some (behind v.conf (c.in_ok-before-in-None.ensures i) (now v))) in
    subst (λ (may : MayDiffer). IsExact w v (Named may)) (sym told) (behind_exact w v new.conf)
