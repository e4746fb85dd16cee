use Rattle.probe_hub.specs.declared.conn.Conn.{Conn}
use Rattle.probe_hub.specs.Conns.{has_number}
use Rattle.probe_hub.specs.Peer.{asked}
use Rattle.probe_hub.proofs.Places.{none_set, set_there}
use Rattle.probe_hub.proofs.conns.Conns.ask.Goals as goal

pub returns-in-Some : goal.returns-in-Some
returns-in-Some c =
    rw c.ask.ensures (set_there (has_number c.args.number) _ _ _ c.as_slice.ensures.value c.self.view_is _ _ c.in-Some.ensures.place c.in-Some.ensures.within c.index_mut.ensures.value
    (λ (d : Conn). record d { peer = asked c.args.xid d.peer }))

pub returns-in_default : goal.returns-in_default
returns-in_default c =
    none_set (has_number c.args.number) _ _ _ c.as_slice.ensures.value c.self.view_is c.in_default.ensures.place (λ (d : Conn). record d { peer = asked c.args.xid d.peer })
