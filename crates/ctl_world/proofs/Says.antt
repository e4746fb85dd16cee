-- What is said on the connection that is found, and nothing where none is.
use Rattle.std.proofs.Common.{◌≡◌, ℕ, ◌++◌, Option, Some, None, List, [], ◌∷◌, refl, inl, inr, sym, ap, ◌∙◌}
use Rattle.std.specs.Option.{option_map, option_map_or}
use Rattle.std.proofs.lemmas.Bool.{cases_Bool, eqb-true}
use Rattle.of13_codec.specs.declared.message.Message.{Message}
use Rattle.switch_session.specs.Connections.{next_id}
use Rattle.ctl_world.specs.declared.conns.Conn.{Conn}
use Rattle.ctl_world.specs.declared.said.Said.{Said}
use Rattle.ctl_world.specs.declared.said.Said.TheVariants as said
use Rattle.ctl_world.specs.Connections.{change, conn_with, has_number}
use Rattle.ctl_world.specs.Saying.{say_by}
use Rattle.ctl_world.specs.World.{World}
use Rattle.ctl_world.proofs.Places.{unchanged}

has_it : (number : ℕ) (conns : List Conn) (c : Conn) → conn_with conns number ≡ Some c → c.number ≡ number
has_it number [] c is = absurd (cc)
has_it number (x ∷ xs) c is =
    elim (cases_Bool (has_number number x)) [
      | inl here ↦ let e : Some x ≡ Some c = rw here at is in let same : x ≡ c = cc in ap (λ (d : Conn). d.number) (sym same) ∙ eqb-true x.number number here
      | inr other ↦ has_it number xs c (rw other at is)
    ]

module _ (f : Conn → Conn) (number : ℕ) (m : Message) (w : World) (conns : List Conn) (noted : conns ≡ change number f w.conns) where
  pub said_on : (xid : ℕ) (more : List Said) → Some xid ≡ option_map (λ (c : Conn). next_id c.session.last_xid) (conn_with w.conns number)
      → more ≡ w.said ++ said.Message number m xid ∷ [] → record w { conns = conns; said = more } ≡ option_map_or (say_by f m w) (conn_with w.conns number) w
  said_on xid more is pushed = at (conn_with w.conns number) refl
    where
      at : (o : Option Conn) → conn_with w.conns number ≡ o → record w { conns = conns; said = more } ≡ option_map_or (say_by f m w) (conn_with w.conns number) w
      at None none = let e = rw none at is in absurd (cc)
      at (Some c) some =
          let e : Some xid ≡ Some (next_id c.session.last_xid) = rw some at is in
          let same : xid ≡ next_id c.session.last_xid = cc in
          rw (noted, pushed, some, has_it number w.conns c some, same) refl

  pub said_on_none : None ≡ option_map (λ (c : Conn). next_id c.session.last_xid) (conn_with w.conns number)
      → record w { conns = conns } ≡ option_map_or (say_by f m w) (conn_with w.conns number) w
  said_on_none is = at (conn_with w.conns number) refl
    where
      at : (o : Option Conn) → conn_with w.conns number ≡ o → record w { conns = conns } ≡ option_map_or (say_by f m w) (conn_with w.conns number) w
      at None none = rw (noted, unchanged number f w.conns none, none) refl
      at (Some c) some = let e = rw some at is in absurd (cc)
