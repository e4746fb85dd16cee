-- Which steps of a turn tell switches to send frames.
use Rattle.std.proofs.Common.{◌≡◌, ℕ, Option, Some, None, List, [], ◌∷◌, ◌++◌, refl, sym, ap, ◌∙◌, append_assoc, append-nil}
use Rattle.std.specs.Option.{option_map_or}
use Rattle.std.proofs.lemmas.List.Concat.{flat_map-append}
use Rattle.of13_codec.specs.declared.message.Message.{Message}
use Rattle.neighbour_resolve.specs.declared.asks.Outgoing.{Outgoing}
use Rattle.switch_session.specs.Connections.{next_id}
use Rattle.ctl_world.specs.declared.conns.Conn.{Conn}
use Rattle.ctl_world.specs.declared.said.Said.{Said}
use Rattle.ctl_world.specs.declared.said.Said.TheVariants as told
use Rattle.ctl_world.specs.Connections.{conn_with, with_asked, with_said}
use Rattle.ctl_world.specs.Saying.{ask, packet_out, say, say_by}
use Rattle.ctl_world.specs.World.{World}
use Rattle.law_lives.specs.Outs.{Out, outs, outs_by, outs_in, sends}

pub more_outs : (all more : List Said) → outs (all ++ more) ≡ outs all ++ outs more
more_outs all more = flat_map-append outs_in all more

-- one more that is none
pub no_outs : (all more : List Said) → outs more ≡ [] → outs (all ++ more) ≡ outs all
no_outs all more none = more_outs all more ∙ ap (λ (rest : List Out). outs all ++ rest) none ∙ append-nil (outs all)

pub one_outs : (all : List Said) (number : ℕ) (m : Message) (xid : ℕ) → outs_by number m ≡ [] → outs (all ++ told.Message number m xid ∷ []) ≡ outs all
one_outs all number m xid none = no_outs all (told.Message number m xid ∷ []) (ap (λ (rest : List Out). rest ++ []) none)

-- a message that is none leaves them
spoken : (f : Conn → Conn) (number : ℕ) (m : Message) (w : World) → ((n : ℕ) → outs_by n m ≡ []) → outs (option_map_or (say_by f m w) (conn_with w.conns number) w).said ≡ outs w.said
spoken f number m w none = by (conn_with w.conns number)
  where
    by : (o : Option Conn) → outs (option_map_or (say_by f m w) o w).said ≡ outs w.said
    by None = refl
    by (Some c) = one_outs w.said c.number m (next_id c.session.last_xid) (none c.number)

pub said_outs : (number : ℕ) (m : Message) (w : World) → ((n : ℕ) → outs_by n m ≡ []) → outs (say number m w).said ≡ outs w.said
said_outs number m w none = spoken with_said number m w none

pub asked_outs : (number : ℕ) (m : Message) (w : World) → ((n : ℕ) → outs_by n m ≡ []) → outs (ask number m w).said ≡ outs w.said
asked_outs number m w none = spoken with_asked number m w none

-- a frame that is told to be sent on an open connection is one more
pub sent_outs : (number : ℕ) (out : Outgoing) (w : World) (c : Conn) → conn_with w.conns number ≡ Some c → c.number ≡ number → outs (say number (packet_out out) w).said ≡ outs w.said ++ sends number out ∷ []
sent_outs number out w c at is =
    ap (λ (o : Option Conn). outs (option_map_or (say_by with_said (packet_out out) w) o w).said) at
    ∙ more_outs w.said (told.Message c.number (packet_out out) (next_id c.session.last_xid) ∷ [])
    ∙ ap (λ (n : ℕ). outs w.said ++ sends n out ∷ []) is
