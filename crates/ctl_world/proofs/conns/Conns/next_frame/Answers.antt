use Rattle.std.proofs.Common.{[], sym, ap, ◌∙◌}
use Rattle.std.specs.Option.{option_map_or}
use Rattle.std.proofs.lemmas.Result.{IfOk-weaker, on_ok_weaker}
use Rattle.ctl_world.specs.declared.conns.Conn.{Conn}
use Rattle.ctl_world.specs.Frames.{front, with_read}
use Rattle.ctl_world.proofs.Ordered.{set_kept}
use Rattle.ctl_world.proofs.Places.{is_there, none_set, none_there, set_there}
use Rattle.ctl_world.proofs.conns.Conns.next_frame.Goals as goal

pub invariant_of-self : goal.invariant_of-self
invariant_of-self c = set_kept _ _ _ _ _ (ap (λ (d : Conn). d.number) c.index_mut.ensures.value) (ap (λ (d : Conn). d.dp) c.index_mut.ensures.value) c.self.invariant

pub returns-in-None-clause-front : goal.returns-in-None-clause-front
returns-in-None-clause-front c = sym (ap (λ o. front (option_map_or (λ (d : Conn). d.session.unread) o [])) (none_there _ _ _ _ c.as_slice.ensures.value c.self.view_is c.in-None.ensures.place))

pub returns-in-None-clause-rest : goal.returns-in-None-clause-rest
returns-in-None-clause-rest c = none_set _ _ _ _ c.as_slice.ensures.value c.self.view_is c.in-None.ensures.place with_read

pub returns-in-Some-clause-front : goal.returns-in-Some-clause-front
returns-in-Some-clause-front c = IfOk-weaker c.take_front.result _ _ (λ x is. is ∙ sym (ap (λ o. front (option_map_or (λ (d : Conn). d.session.unread) o [])) (is_there _ _ _ _ c.as_slice.ensures.value c.self.view_is _ _ c.in-Some.ensures.place c.in-Some.ensures.within c.index_mut.ensures.value))) c.take_front.ensures.front

pub returns-in-Some-clause-rest : goal.returns-in-Some-clause-rest
returns-in-Some-clause-rest c = on_ok_weaker c.take_front.result (λ is. rw is (set_there _ _ _ _ c.as_slice.ensures.value c.self.view_is _ _ c.in-Some.ensures.place c.in-Some.ensures.within c.index_mut.ensures.value with_read)) c.take_front.ensures.rest
