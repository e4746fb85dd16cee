use Rattle.std.proofs.Common.{ap}
use Rattle.std.proofs.lemmas.Result.{on_ok_weaker}
use Rattle.ctl_world.specs.declared.conns.Conn.{Conn}
use Rattle.ctl_world.specs.Connections.{with_fed}
use Rattle.ctl_world.proofs.Ordered.{set_kept}
use Rattle.ctl_world.proofs.Places.{none_set, set_there}
use Rattle.ctl_world.proofs.conns.Conns.feed.Goals as goal

pub invariant_of-self : goal.invariant_of-self
invariant_of-self c = set_kept _ _ _ _ _ (ap (λ (d : Conn). d.number) c.index_mut.ensures.value) (ap (λ (d : Conn). d.dp) c.index_mut.ensures.value) c.self.invariant

pub returns-in_default : goal.returns-in_default
returns-in_default c = none_set _ _ _ _ c.as_slice.ensures.value c.self.view_is c.in_default.ensures.place (with_fed c.args.piece.now c.args.now)

pub returns : goal.returns
returns c = on_ok_weaker c.feed.result (λ is. rw is (set_there _ _ _ _ c.as_slice.ensures.value c.self.view_is _ _ c.in-Some.ensures.place c.in-Some.ensures.within c.index_mut.ensures.value (with_fed c.args.piece.now c.args.now))) c.feed.ensures.ok
