use Rattle.std.proofs.Common.{ℕ, Option, set, sym, ap, ◌∙◌}
use Rattle.probe_hub.specs.declared.conn.Conn.{Conn}
use Rattle.probe_hub.specs.declared.notices.Notice.{Notice}
use Rattle.probe_hub.specs.Conn.{given_of, is_due}
use Rattle.probe_hub.specs.Conns.{told_on}
use Rattle.probe_hub.proofs.Places.{both, is_there, none_set, none_there, set_there}
use Rattle.probe_hub.proofs.conns.Conns.take_due.Goals as goal

pub returns-in-Some : goal.returns-in-Some
returns-in-Some c =
    let there = is_there is_due _ _ _ c.as_slice.ensures.value c.self.view_is _ _ c.in-Some.ensures.place c.in-Some.ensures.within c.index_mut.ensures.value in
    let written = set_there is_due _ _ _ c.as_slice.ensures.value c.self.view_is _ _ c.in-Some.ensures.place c.in-Some.ensures.within c.index_mut.ensures.value (λ (d : Conn). (given_of d).0) in
    both (ap (set c.self.inside.conns.items c.in-Some.at) (ap (λ (r : Conn × Option (ℕ × Notice)). r.0) c.take_notice.ensures) ∙ written)
    (ap (λ (r : Conn × Option (ℕ × Notice)). r.1) c.take_notice.ensures ∙ sym (ap told_on there))

pub returns-in-None : goal.returns-in-None
returns-in-None c =
    both (none_set is_due _ _ _ c.as_slice.ensures.value c.self.view_is c.in-None.ensures.place (λ (d : Conn). (given_of d).0))
    (sym (ap told_on (none_there is_due _ _ _ c.as_slice.ensures.value c.self.view_is c.in-None.ensures.place)))
