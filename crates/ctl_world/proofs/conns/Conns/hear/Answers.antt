use Rattle.std.proofs.Common.{sym, ap, ◌∙◌}
use Rattle.std.specs.Option.{option_map_or}
use Rattle.std.proofs.lemmas.Result.{IfOk-weaker}
use Rattle.switch_session.specs.declared.state.Step.TheVariants.{Nothing}
use Rattle.switch_session.specs.Stages.{leads}
use Rattle.ctl_world.specs.declared.conns.Conn.{Conn}
use Rattle.ctl_world.specs.Connections.{with_heard}
use Rattle.ctl_world.proofs.Ordered.{set_kept}
use Rattle.ctl_world.proofs.Places.{is_there, none_set, none_there, set_there}
use Rattle.ctl_world.proofs.conns.Conns.hear.Goals as goal

pub invariant_of-self : goal.invariant_of-self
invariant_of-self c = set_kept _ _ _ _ _ (ap (λ (d : Conn). d.number) c.index_mut.ensures.value) (ap (λ (d : Conn). d.dp) c.index_mut.ensures.value) c.self.invariant

pub returns-in_default-clause-step : goal.returns-in_default-clause-step
returns-in_default-clause-step c = sym (ap (λ o. option_map_or (λ (d : Conn). (leads d.session.state c.args.message.now c.args.xid).1) o Nothing) (none_there _ _ _ _ c.as_slice.ensures.value c.self.view_is c.in_default.ensures.place))

pub returns-in_default-clause-noted : goal.returns-in_default-clause-noted
returns-in_default-clause-noted c = none_set _ _ _ _ c.as_slice.ensures.value c.self.view_is c.in_default.ensures.place (with_heard c.args.message.now c.args.xid)

pub returns-clause-step : goal.returns-clause-step
returns-clause-step c = IfOk-weaker c.hear.result _ _ (λ x is. is.1 ∙ sym (ap (λ o. option_map_or (λ (d : Conn). (leads d.session.state c.args.message.now c.args.xid).1) o Nothing) (is_there _ _ _ _ c.as_slice.ensures.value c.self.view_is _ _ c.in-Some.ensures.place c.in-Some.ensures.within c.index_mut.ensures.value))) c.hear.ensures.ok

pub returns-clause-noted : goal.returns-clause-noted
returns-clause-noted c = IfOk-weaker c.hear.result _ _ (λ x is. rw is.0 (set_there _ _ _ _ c.as_slice.ensures.value c.self.view_is _ _ c.in-Some.ensures.place c.in-Some.ensures.within c.index_mut.ensures.value (with_heard c.args.message.now c.args.xid))) c.hear.ensures.ok
