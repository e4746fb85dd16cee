use Rattle.std.proofs.Common.{◌≡◌, ℕ, List, Option, Some, sym, ap, subst, ◌∙◌}
use Rattle.std.specs.Option.{option_map_or}
use Rattle.net_base.specs.declared.numbers.DpId.{DpId}
use Rattle.conf_types.specs.State.{State}
use Rattle.of13_codec.specs.declared.message.Message.{Message}
use Rattle.switch_session.specs.declared.state.Step.{Step}
use Rattle.switch_session.specs.declared.state.Step.TheVariants.{Nothing}
use Rattle.switch_session.specs.Stages.{leads}
use Rattle.ctl_world.specs.declared.conns.Conn.{Conn}
use Rattle.ctl_world.specs.Connections.{change, conn_with, with_heard}
use Rattle.ctl_world.specs.Ends.{forget_lost}
use Rattle.ctl_world.specs.World.{World, now}
use Rattle.ctl_settle.specs.Touched.{MayDiffer}
use Rattle.ctl_core.specs.declared.found.Found.TheVariants.{Named}
use Rattle.ctl_core.specs.Behind.{behind}
use Rattle.ctl_core.specs.Changes.{Changes}
use Rattle.ctl_core.specs.Found.{Tells}
use Rattle.ctl_core.specs.Told.{IsExact}
use Rattle.ctl_core.specs.Hearing.{follow, hear_message}
use Rattle.ctl_core.proofs.Bound.{behind_exact}
use Rattle.ctl_core.proofs.NoneNew.{NoneIsNew, behind_tells, followed, message_new}
use Rattle.ctl_core.proofs.hearing.hear_change.Goals as goal

-- the connection has taken the step that the code took, and what follows from it is done
module _ (w lost v : World) (conns : List Conn) (step : Step) (m : Message) (xid conn : ℕ) (dp : Option DpId) (changes : Changes m xid dp (conn_with w.conns conn))
    (noted : conns ≡ change conn (with_heard m xid) w.conns) (taken : step ≡ option_map_or (λ c. (leads c.session.state m xid).1) (conn_with w.conns conn) Nothing)
    (forgot : lost ≡ forget_lost (record w { conns = conns })) (done : v ≡ follow step m xid conn dp lost) where
  heard : v ≡ hear_message m xid conn w
  heard = done ∙ ap (follow step m xid conn dp) (forgot ∙ ap (λ cs. forget_lost (record w { conns = cs })) noted) ∙ followed w m xid conn dp changes step taken

  none_new : NoneIsNew w v
  none_new = subst (NoneIsNew w) (sym heard) (message_new w m xid conn dp changes)

pub returns-clause-heard : goal.returns-clause-heard
returns-clause-heard c =
    heard c.args.world.now c.forget_lost.new.self c.follow.new.world c.hear.new.self c.in_ok-step.step c.args.message.now c.args.xid c.args.conn c.args.dp c.requires
    c.in_ok-step.ensures.noted c.in_ok-step.ensures.step c.in_ok-forget_lost.ensures c.in_ok-follow.ensures.done

pub returns-clause-tells : goal.returns-clause-tells
returns-clause-tells c =
    let w : World = c.args.world.now in
    let v : World = c.follow.new.world in
    let new = none_new w c.forget_lost.new.self v c.hear.new.self c.in_ok-step.step c.args.message.now c.args.xid c.args.conn c.args.dp c.requires
    c.in_ok-step.ensures.noted c.in_ok-step.ensures.step c.in_ok-forget_lost.ensures c.in_ok-follow.ensures.done in
    subst (λ (may : MayDiffer). Tells w v (Named may)) (sym c.in_ok-touched.ensures)
    (subst (λ (s : State). Tells w v (Named (Some (behind v.conf s (now v))))) (sym c.in_ok-before.ensures) (behind_tells w v new))

pub returns-clause-exact : goal.returns-clause-exact
returns-clause-exact c =
    let w : World = c.args.world.now in
    let v : World = c.follow.new.world in
    let new = none_new w c.forget_lost.new.self v c.hear.new.self c.in_ok-step.step c.args.message.now c.args.xid c.args.conn c.args.dp c.requires
    c.in_ok-step.ensures.noted c.in_ok-step.ensures.step c.in_ok-forget_lost.ensures c.in_ok-follow.ensures.done in
    let told : c.in_ok-touched.touched ≡ Some (behind v.conf (now w) (now v)) = c.in_ok-touched.ensures ∙ (λ i. Some (behind v.conf (c.in_ok-before.ensures i) (now v))) in
    subst (λ (may : MayDiffer). IsExact w v (Named may)) (sym told) (behind_exact w v new.conf)
