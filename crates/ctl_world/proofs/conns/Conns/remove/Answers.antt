use Rattle.std.proofs.Common.{not, sym, subst, ◌∙◌}
use Rattle.std.specs.List.{AllByRecursion}
use Rattle.ctl_world.specs.declared.conns.Conn.{Conn}
use Rattle.ctl_world.specs.Connections.{has_number}
use Rattle.ctl_world.specs.Firsts.{AreInOrder, AreKept}
use Rattle.ctl_world.proofs.Ordered.{IsBegun, part_kept, without_none}
use Rattle.ctl_world.proofs.Places.{none_there}
use Rattle.ctl_world.proofs.conns.Conns.remove.Goals as goal

pub returns-in_default : goal.returns-in_default
returns-in_default c = sym (without_none c.args.number c.args.self.now (none_there _ _ _ _ c.as_slice.ensures.value c.self.view_is c.in_default.ensures.place))

pub begin_anew-requires-clause-order : goal.begin_anew-requires-clause-order
begin_anew-requires-clause-order c =
    let left = part_kept c.self.inside.firsts (λ (d : Conn). not (has_number c.args.number d)) c.self.inside.conns.items c.self.invariant in
    subst AreInOrder (sym (c.as_slice-in-Some-dp.ensures.value ∙ c.remove_from.ensures)) left.order

pub begin_anew-requires-clause-begun : goal.begin_anew-requires-clause-begun
begin_anew-requires-clause-begun c =
    let left = part_kept c.self.inside.firsts (λ (d : Conn). not (has_number c.args.number d)) c.self.inside.conns.items c.self.invariant in
    subst (AllByRecursion (IsBegun c.self.inside.firsts)) (sym (c.as_slice-in-Some-dp.ensures.value ∙ c.remove_from.ensures)) left.begun

pub invariant_of-self : goal.invariant_of-self
invariant_of-self c =
    let left = part_kept c.self.inside.firsts (λ (d : Conn). not (has_number c.args.number d)) c.self.inside.conns.items c.self.invariant in
    record {
      order = subst AreInOrder (sym c.remove_from.ensures) left.order;
      begun = subst (AllByRecursion (IsBegun c.begin_anew.new.firsts)) c.as_slice-in-Some-dp.ensures.value c.begin_anew.ensures;
    }

pub invariant_of-self-in_default-dp : goal.invariant_of-self-in_default-dp
invariant_of-self-in_default-dp c =
    subst (λ conns. AreKept conns c.self.inside.firsts) (sym c.remove_from.ensures)
    (part_kept c.self.inside.firsts (λ (d : Conn). not (has_number c.args.number d)) c.self.inside.conns.items c.self.invariant)
