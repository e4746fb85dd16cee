use Rattle.std.proofs.Common.{Some, sym, ap, ◌∙◌}
use Rattle.std.specs.Option.{option_map}
use Rattle.switch_session.specs.Connections.{next_id}
use Rattle.ctl_world.specs.declared.conns.Conn.{Conn}
use Rattle.ctl_world.specs.Connections.{with_asked}
use Rattle.ctl_world.proofs.Ordered.{set_kept}
use Rattle.ctl_world.proofs.Places.{is_there, none_set, none_there, set_there}
use Rattle.ctl_world.proofs.conns.Conns.ask_xid.Goals as goal

pub invariant_of-self : goal.invariant_of-self
invariant_of-self c = set_kept _ _ _ _ _ (ap (λ (d : Conn). d.number) c.index_mut-conn.ensures.value) (ap (λ (d : Conn). d.dp) c.index_mut-conn.ensures.value) c.self.invariant

pub returns-in_err-at-clause-xid : goal.returns-in_err-at-clause-xid
returns-in_err-at-clause-xid c = c.from_residual.ensures ∙ sym (ap (option_map (λ (d : Conn). next_id d.session.last_xid)) (none_there _ _ _ _ c.as_slice.ensures.value c.self.view_is c.in_err-at.ensures.place))

pub returns-in_err-at-clause-noted : goal.returns-in_err-at-clause-noted
returns-in_err-at-clause-noted c = none_set _ _ _ _ c.as_slice.ensures.value c.self.view_is c.in_err-at.ensures.place with_asked

pub returns-clause-xid : goal.returns-clause-xid
returns-clause-xid c = ap Some c.next_xid-xid.ensures.value ∙ sym (ap (option_map (λ (d : Conn). next_id d.session.last_xid)) (is_there _ _ _ _ c.as_slice.ensures.value c.self.view_is _ _ c.in_ok-at.ensures.place c.in_ok-at.ensures.within c.index_mut-conn.ensures.value))

pub returns-clause-noted : goal.returns-clause-noted
returns-clause-noted c = rw (c.asked.ensures, c.next_xid-xid.ensures.noted, c.next_xid-xid.ensures.value) (set_there _ _ _ _ c.as_slice.ensures.value c.self.view_is _ _ c.in_ok-at.ensures.place c.in_ok-at.ensures.within c.index_mut-conn.ensures.value with_asked)
