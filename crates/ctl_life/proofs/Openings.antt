-- Which connections are open, where one is changed, goes or comes; and what opens.
use Rattle.std.proofs.Common.{◌≡◌, ℕ, ◌==◌, ◌||◌, Bool, true, false, cond, Option, Some, None, List, [], ◌∷◌, is_some, inl, inr, refl, sym, ap, ◌∙◌, eq-eqb, if◌then◌else◌}
use Rattle.std.specs.List.{find}
use Rattle.std.specs.Option.{option_map_or}
use Rattle.std.proofs.lemmas.Bool.{cases_Bool}
use Rattle.of13_codec.specs.declared.message.Message.TheVariants as messages
use Rattle.switch_session.specs.Connections.{opened}
use Rattle.ctl_world.specs.declared.conns.Conn.{Conn}
use Rattle.ctl_world.specs.declared.frames.Front.TheVariants.{Part}
use Rattle.ctl_world.specs.Connections.{change, conn_with, has_number, is_open, put, with_said, without}
use Rattle.ctl_world.specs.Frames.{front}
use Rattle.ctl_world.specs.Saying.{say_by}
use Rattle.ctl_world.specs.World.{World}
use Rattle.ctl_life.specs.Life.{unread, open_conn}
use Rattle.ctl_world.proofs.Numbered.{put_other, put_own, shut_none, without_other, without_own}

pub open_is : (conns : List Conn) (n : ℕ) → is_open conns n ≡ is_some (conn_with conns n)
open_is [] n = refl
open_is (x ∷ xs) n = elim (has_number n x) as (λ b. (b || is_open xs n) ≡ is_some (cond b (Some x) (conn_with xs n))) [ true ↦ refl | false ↦ open_is xs n ]

pub found_open : (p : Conn → Bool) (conns : List Conn) (c : Conn) → find p conns ≡ Some c → is_open conns c.number ≡ true
found_open p [] c is = absurd (cc)
found_open p (x ∷ xs) c is =
    elim (cases_Bool (p x)) [
      | inl here ↦
          let e : Some x ≡ Some c = rw here at is in
          let same : x ≡ c = cc in
          ap (λ b. b || is_open xs c.number) (ap (has_number c.number) same ∙ eq-eqb c.number c.number refl)
      | inr other ↦
          ap (λ b. has_number c.number x || b) (found_open p xs c (rw other at is))
          ∙ (elim (has_number c.number x) as (λ b. (b || true) ≡ true) [ true ↦ refl | false ↦ refl ])
    ]

-- ---- one is changed, goes or comes

pub change_open : (f : Conn → Conn) → ((c : Conn) → (f c).number ≡ c.number) → (number n : ℕ) (conns : List Conn) → is_open (change number f conns) n ≡ is_open conns n
change_open f same number n [] = refl
change_open f same number n (x ∷ xs) =
    elim (has_number number x) as (λ b. is_open (if b then f x ∷ xs else x ∷ change number f xs) n ≡ is_open (x ∷ xs) n) [
      | true ↦ ap (λ (k : ℕ). (k == n) || is_open xs n) (same x)
      | false ↦ ap (λ b. has_number n x || b) (change_open f same number n xs)
    ]

pub without_shut : (number : ℕ) (conns : List Conn) → is_open (without number conns) number ≡ false
without_shut number conns = open_is (without number conns) number ∙ ap (λ (o : Option Conn). is_some o) (without_own number conns)

pub without_open : (number n : ℕ) → (n ≡ number → ⊥) → (conns : List Conn) → is_open (without number conns) n ≡ is_open conns n
without_open number n differs conns =
    open_is (without number conns) n ∙ ap (λ (o : Option Conn). is_some o) (without_other number n differs conns) ∙ sym (open_is conns n)

pub put_opens : (c : Conn) (conns : List Conn) → is_open conns c.number ≡ false → is_open (put c conns) c.number ≡ true
put_opens c conns shut = open_is (put c conns) c.number ∙ ap (λ (o : Option Conn). is_some o) (put_own c conns (shut_none c.number conns shut))

pub put_open : (c : Conn) (n : ℕ) → (n ≡ c.number → ⊥) → (conns : List Conn) → is_open (put c conns) n ≡ is_open conns n
put_open c n differs conns = open_is (put c conns) n ∙ ap (λ (o : Option Conn). is_some o) (put_other c n differs conns) ∙ sym (open_is conns n)

-- ---- bytes that came are of an open connection

pub front_open : (number : ℕ) (w : World) → (front (unread number w) ≡ Part → ⊥) → is_open w.conns number ≡ true
front_open number w some = by (conn_with w.conns number) refl
  where
    by : (o : Option Conn) → conn_with w.conns number ≡ o → is_open w.conns number ≡ true
    by None is = absurd (some (ap (λ o. front (option_map_or (λ (c : Conn). c.session.unread) o [])) is))
    by (Some c) is = open_is w.conns number ∙ ap (λ (o : Option Conn). is_some o) is

-- ---- one opens: its HELLO is said on it

abbrev pub fresh : ℕ → World → Conn
fresh number w = record { number = number; session = opened w.moment; dp = None; sent = [] }

abbrev pub with_fresh : ℕ → World → World
with_fresh number w = record w { conns = put (fresh number w) w.conns }

pub fresh_is : (number : ℕ) (w : World) → is_open w.conns number ≡ false → conn_with (put (fresh number w) w.conns) number ≡ Some (fresh number w)
fresh_is number w shut = put_own (fresh number w) w.conns (shut_none number w.conns shut)

pub opens_by : (number : ℕ) (w : World) → is_open w.conns number ≡ false → open_conn number w ≡ say_by with_said (messages.Hello 4 (Some 16)) (with_fresh number w) (fresh number w)
opens_by number w shut = ap (λ o. option_map_or (say_by with_said (messages.Hello 4 (Some 16)) (with_fresh number w)) o (with_fresh number w)) (fresh_is number w shut)
