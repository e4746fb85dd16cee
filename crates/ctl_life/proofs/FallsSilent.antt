-- A connection that is looked at and stays open leaves which connections fall silent.
use Rattle.std.proofs.Common.{◌≡◌, ℕ, ◌-◌, ◌≤◌, ◌||◌, Bool, true, false, nat_le, Option, Some, None, List, [], ◌∷◌, length, get_or, take, drop, take_all, refl, sym, ap, ◌∙◌, arith, if◌then◌else◌}
use Rattle.std.specs.List.{list_any}
use Rattle.std.specs.Option.{option_map_or}
use Rattle.net_base.specs.declared.numbers.Moment.{Moment}
use Rattle.of13_codec.specs.declared.message.Message.{Message}
use Rattle.of13_codec.specs.declared.message.Message.TheVariants.{EchoRequest}
use Rattle.switch_session.specs.declared.quiet.Quiet.{Quiet}
use Rattle.switch_session.specs.declared.quiet.Quiet.TheVariants.{Well, Echo, Silent}
use Rattle.switch_session.specs.Connections.{due, due_at}
use Rattle.ctl_world.specs.declared.conns.Conn.{Conn}
use Rattle.ctl_world.specs.Connections.{change, conn_with, is_open, with_looked, with_said}
use Rattle.ctl_world.specs.Saying.{say, say_by}
use Rattle.ctl_world.specs.World.{World}
use Rattle.ctl_life.specs.Silence.{closes, falls_silent, is_silent, look, look_on, stir}
use Rattle.ctl_world.proofs.Numbered.{shut_none, with_seen}

-- ---- a connection is closed after 60 seconds, whether an echo was asked for or not

closes_due : (echoed : Bool) (silence : ℕ) → closes (due echoed silence) ≡ nat_le 60000 silence
closes_due true silence = elim (nat_le 60000 silence) as (λ b. closes (if b then Silent else Well) ≡ b) [ true ↦ refl | false ↦ refl ]
closes_due false silence =
    elim (nat_le 60000 silence) as (λ b. closes (if b then Silent else (if nat_le 20000 silence then Echo else Well)) ≡ b) [
      | true ↦ refl
      | false ↦ elim (nat_le 20000 silence) as (λ b. closes (if b then Echo else Well) ≡ false) [ true ↦ refl | false ↦ refl ]
    ]

closes_at : (now : Moment) (c : Conn) → closes (due_at c.session now) ≡ is_silent now c
closes_at now c = closes_due c.session.echoed (now.0 - c.session.heard.0)

pub closes_silent : (now : Moment) (o : Option Conn) → closes (option_map_or (λ (c : Conn). due_at c.session now) o Well) ≡ option_map_or (is_silent now) o false
closes_silent now (Some c) = closes_at now c
closes_silent now None = refl

pub shut_not_silent : (number : ℕ) (w : World) → is_open w.conns number ≡ false → falls_silent w number ≡ false
shut_not_silent number w shut = ap (λ (o : Option Conn). option_map_or (is_silent w.moment) o false) (shut_none number w.conns shut)

-- ---- one that is changed, but not as to when it was heard

say_silent : (n : ℕ) (m : Message) (number : ℕ) (w : World) → falls_silent (say n m w) number ≡ falls_silent w number
say_silent n m number w = by (conn_with w.conns n)
  where
    by : (o : Option Conn) → falls_silent (option_map_or (say_by with_said m w) o w) number ≡ falls_silent w number
    by (Some c) = with_seen with_said (λ k. refl) c.number (is_silent w.moment) (λ k. refl) number w.conns false
    by None = refl

-- ---- one that is looked at

module _ (w : World) (number : ℕ) where
  stir_silent : (q : Quiet) → closes q ≡ false → (n : ℕ) (v : World) → falls_silent v number ≡ falls_silent w number → falls_silent (stir q n v) number ≡ falls_silent w number
  stir_silent Well kept n v same = same
  stir_silent Echo kept n v same = say_silent n (EchoRequest []) number v ∙ same
  stir_silent Silent kept n v same = absurd (cc)

  look_silent : (n : ℕ) → falls_silent w n ≡ false → falls_silent (look n w) number ≡ falls_silent w number
  look_silent n kept = by (conn_with w.conns n) refl
    where
      by : (o : Option Conn) → conn_with w.conns n ≡ o → falls_silent (option_map_or (look_on w) o w) number ≡ falls_silent w number
      by (Some c) is =
          stir_silent (due_at c.session w.moment) (closes_at w.moment c ∙ (rw is at kept)) c.number (record w { conns = change c.number (with_looked w.moment) w.conns })
          (with_seen (with_looked w.moment) (λ k. refl) c.number (is_silent w.moment) (λ k. refl) number w.conns false)
      by None is = refl

any_same : (f g : ℕ → Bool) → ((n : ℕ) → f n ≡ g n) → (numbers : List ℕ) → list_any f numbers ≡ list_any g numbers
any_same f g same [] = refl
any_same f g same (n ∷ more) = ap (λ b. b || list_any f more) (same n) ∙ ap (λ b. g n || b) (any_same f g same more)

-- where the first one stays open, that another falls silent is to be asked behind it
pub look_all : (w : World) (numbers : List ℕ) → 1 ≤ length numbers → (others : Bool) → falls_silent w (get_or numbers 0 0) ≡ false
    → others ≡ list_any (falls_silent (look (get_or numbers 0 0) w)) (take (length numbers - 1) (drop 1 numbers)) → others ≡ list_any (falls_silent w) numbers
look_all w [] some others first rest = absurd (omega (arith, some))
look_all w (n ∷ more) some others first rest =
    let all : take (length (n ∷ more) - 1) more ≡ more = take_all (length (n ∷ more) - 1) more (omega arith) in
    rest
    ∙ ap (list_any (falls_silent (look n w))) all
    ∙ any_same (falls_silent (look n w)) (falls_silent w) (λ m. look_silent w m n first) more
    ∙ ap (λ b. b || list_any (falls_silent w) more) (sym first)
