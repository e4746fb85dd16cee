use Rattle.std.proofs.Common.{ap}
use Rattle.ctl_world.specs.declared.conns.Conn.{Conn}
use Rattle.ctl_world.specs.Connections.{with_dp}
use Rattle.ctl_world.proofs.Ordered.{set_begun}
use Rattle.ctl_world.proofs.Places.{none_set, set_there}
use Rattle.ctl_world.proofs.conns.Conns.set_dp.Goals as goal

pub invariant_of-self : goal.invariant_of-self
invariant_of-self c =
    set_begun c.self.inside.firsts c.note.new.firsts c.self.inside.conns.items c.in-Some.at (with_dp c.args.dp c.index_mut-conn.result.now) c.index_mut-conn.result.now
    (ap (λ (d : Conn). d.number) c.index_mut-conn.ensures.value) c.note.ensures.kept c.note.ensures.noted c.self.invariant

pub returns-in-Some : goal.returns-in-Some
returns-in-Some c = set_there _ _ _ _ c.as_slice.ensures.value c.self.view_is _ _ c.in-Some.ensures.place c.in-Some.ensures.within c.index_mut-conn.ensures.value (with_dp c.args.dp)

pub returns-in_default : goal.returns-in_default
returns-in_default c = none_set _ _ _ _ c.as_slice.ensures.value c.self.view_is c.in_default.ensures.place (with_dp c.args.dp)
