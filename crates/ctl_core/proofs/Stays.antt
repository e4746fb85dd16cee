-- A message that leaves the state of its connection as it is.
use Rattle.std.proofs.Common.{◌≡◌, ℕ, Some, List, sym, ap, subst, ◌∙◌}
use Rattle.of13_codec.specs.declared.message.Message.{Message}
use Rattle.switch_session.specs.Stages.{leads}
use Rattle.ctl_world.specs.declared.conns.Conn.{Conn}
use Rattle.ctl_world.specs.Connections.{change, conn_with, with_heard}
use Rattle.ctl_world.specs.Ends.{forget_lost}
use Rattle.ctl_world.specs.World.{World}
use Rattle.ctl_world.proofs.Numbered.{change_kept}

heard_same : (m : Message) (xid : ℕ) (c : Conn) → (leads c.session.state m xid).0 ≡ c.session.state → with_heard m xid c ≡ c
heard_same m xid c same = λ i. record c { session = record c.session { state = same i } }

conns_stay : (m : Message) (xid number : ℕ) (conns : List Conn) (c : Conn) → conn_with conns number ≡ Some c → (leads c.session.state m xid).0 ≡ c.session.state
    → change number (with_heard m xid) conns ≡ conns
conns_stay m xid number conns c at same =
    change_kept (with_heard m xid) number conns
    (λ d is. let it : Some c ≡ Some d = sym at ∙ is in let e : c ≡ d = cc in subst (λ (k : Conn). with_heard m xid k ≡ k) e (heard_same m xid c same))

module _ (m : Message) (xid number : ℕ) (w : World) (c : Conn) (at : conn_with w.conns number ≡ Some c) (same : (leads c.session.state m xid).0 ≡ c.session.state) where
  pub world_stays : record w { conns = change number (with_heard m xid) w.conns } ≡ w
  world_stays = ap (λ cs. record w { conns = cs }) (conns_stay m xid number w.conns c at same)

  -- and in a sound world there is nothing to forget
  pub nothing_lost : forget_lost w ≡ w → forget_lost (record w { conns = change number (with_heard m xid) w.conns }) ≡ record w { conns = change number (with_heard m xid) w.conns }
  nothing_lost sound = ap forget_lost world_stays ∙ sound ∙ sym world_stays
