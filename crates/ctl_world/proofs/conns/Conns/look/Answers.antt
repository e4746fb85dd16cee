use Rattle.std.proofs.Common.{sym, ap, ◌∙◌}
use Rattle.std.specs.Option.{option_map_or}
use Rattle.switch_session.specs.declared.quiet.Quiet.TheVariants.{Well}
use Rattle.switch_session.specs.Connections.{due_at}
use Rattle.ctl_world.specs.declared.conns.Conn.{Conn}
use Rattle.ctl_world.specs.Connections.{with_looked}
use Rattle.ctl_world.proofs.Ordered.{set_kept}
use Rattle.ctl_world.proofs.Places.{is_there, none_set, none_there, set_there}
use Rattle.ctl_world.proofs.conns.Conns.look.Goals as goal

pub invariant_of-self : goal.invariant_of-self
invariant_of-self c = set_kept _ _ _ _ _ (ap (λ (d : Conn). d.number) c.index_mut.ensures.value) (ap (λ (d : Conn). d.dp) c.index_mut.ensures.value) c.self.invariant

pub returns-in-Some-clause-due : goal.returns-in-Some-clause-due
returns-in-Some-clause-due c = c.quiet.ensures.due ∙ sym (ap (λ o. option_map_or (λ (d : Conn). due_at d.session c.args.now) o Well) (is_there _ _ _ _ c.as_slice.ensures.value c.self.view_is _ _ c.in-Some.ensures.place c.in-Some.ensures.within c.index_mut.ensures.value))

pub returns-in-Some-clause-noted : goal.returns-in-Some-clause-noted
returns-in-Some-clause-noted c = rw (c.quiet.ensures.noted, c.quiet.ensures.due) (set_there _ _ _ _ c.as_slice.ensures.value c.self.view_is _ _ c.in-Some.ensures.place c.in-Some.ensures.within c.index_mut.ensures.value (with_looked c.args.now))

pub returns-in-None-clause-due : goal.returns-in-None-clause-due
returns-in-None-clause-due c = sym (ap (λ o. option_map_or (λ (d : Conn). due_at d.session c.args.now) o Well) (none_there _ _ _ _ c.as_slice.ensures.value c.self.view_is c.in-None.ensures.place))

pub returns-in-None-clause-noted : goal.returns-in-None-clause-noted
returns-in-None-clause-noted c = none_set _ _ _ _ c.as_slice.ensures.value c.self.view_is c.in-None.ensures.place (with_looked c.args.now)
