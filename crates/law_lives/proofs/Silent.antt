-- On each connection that is open a byte came within the last 60 seconds.
use Rattle.std.proofs.Common.{◌≡◌, ℕ, zero, suc, ◌==◌, ◌||◌, ◌+◌, ◌-◌, ◌<◌, Bool, true, false, Option, Some, None, List, [], ◌∷◌, map, inl, inr, refl, sym, ap, subst, ◌∙◌, arith, if◌then◌else◌}
use Rattle.std.specs.List.{list_any}
use Rattle.std.specs.Option.{option_map, option_map_or}
use Rattle.std.proofs.lemmas.Bool.{cases_Bool, eqb-true, leb-false}
use Rattle.net_base.specs.declared.numbers.Moment.{Moment}
use Rattle.of13_codec.specs.declared.message.Message.TheVariants as messages
use Rattle.switch_session.specs.declared.closing.Closing.TheVariants.{BadFrame, Silent as SilentClosing}
use Rattle.switch_session.specs.declared.quiet.Quiet.{Quiet}
use Rattle.switch_session.specs.declared.quiet.Quiet.TheVariants.{Well, Echo, Silent}
use Rattle.switch_session.specs.Connections.{due_at}
use Rattle.ctl_world.specs.declared.conns.Conn.{Conn}
use Rattle.ctl_world.specs.declared.frames.Front.{Front}
use Rattle.ctl_world.specs.declared.frames.Front.TheVariants.{Part, Frame, Bad}
use Rattle.ctl_world.specs.Connections.{change, conn_with, is_open, with_looked}
use Rattle.ctl_world.specs.Ends.{close}
use Rattle.ctl_world.specs.Frames.{front, with_read}
use Rattle.ctl_world.specs.World.{World}
use Rattle.ctl_life.specs.Life.{has_frame, read, says, unread}
use Rattle.ctl_life.specs.Silence.{closes, is_silent, look, look_each, look_on, stir}
use Rattle.ctl_life.proofs.FallsSilent.{closes_silent}
use Rattle.ctl_world.proofs.Numbered.{changed_own, has_it, shut_none, without_own}
use Rattle.ctl_core.specs.Hearing.{hear_frame, hear_frames, hear_front, hear_next}
use Rattle.law_lives.proofs.Moments.{look_shows}
use Rattle.law_lives.proofs.Seen as seen

-- at this moment
abbrev pub IsLoud : (moment : ℕ) → (number : ℕ) → World → Type 0
IsLoud moment n w = moment < option_map_or (λ (c : Conn). c.session.heard.0) (conn_with w.conns n) moment + 60000

abbrev pub heard_at : List ℕ → Moment → ℕ
heard_at u t = t.0

abbrev pub Within : ℕ → ℕ → Type 0
Within moment x = moment < x + 60000

pub now_within : (moment : ℕ) → Within moment moment
now_within moment = omega arith

-- ---- the frames of a piece

front_loud : (T number n : ℕ) (f : Front) (w : World) → IsLoud T n w → IsLoud T n (hear_front f number w)
front_loud T number n Part w loud = loud
front_loud T number n (Frame frame) w loud =
    seen.settled_has heard_at T n (Within T) (now_within T) (hear_frame (says frame) number w) (seen.heard_has heard_at T n (Within T) (now_within T) (says frame) number w loud)
front_loud T number n Bad w loud =
    seen.settled_has heard_at T n (Within T) (now_within T) (close BadFrame number w) (seen.close_has heard_at T n (Within T) (now_within T) BadFrame number w loud)

pub frames_loud : (T most number n : ℕ) (w : World) → IsLoud T n w → IsLoud T n (hear_frames most number w)
frames_loud T zero number n w loud = loud
frames_loud T (suc most) number n w loud =
    let next : IsLoud T n (hear_next number w) = front_loud T number n (front (unread number w)) (read number w)
    (seen.changed heard_at T n (Within T) (now_within T) number with_read (λ c. refl) (λ c. refl) w loud)
    in
    elim (has_frame number w) as (λ b. IsLoud T n (if b then hear_frames most number (hear_next number w) else hear_next number w)) [
      | true ↦ frames_loud T most number n (hear_next number w) next
      | false ↦ next
    ]

-- ---- the clock

module _ (t : Moment) where
  abbrev Loud : ℕ → World → Type 0
  Loud n w = IsLoud t.0 n w

  gone : (n : ℕ) (w : World) → conn_with w.conns n ≡ None → Loud n w
  gone n w none = subst (λ (o : Option Conn). t.0 < option_map_or (λ (c : Conn). c.session.heard.0) o t.0 + 60000) (sym none) (now_within t.0)

  -- one that isn't silent
  not_silent : (c : Conn) → is_silent t c ≡ false → t.0 < c.session.heard.0 + 60000
  not_silent c is = let less : t.0 - c.session.heard.0 < 60000 = leb-false 60000 (t.0 - c.session.heard.0) is in omega (arith, less)

  stirred : (q : Quiet) (c : Conn) (n : ℕ) (v : World) → closes q ≡ is_silent t c → conn_with v.conns n ≡ Some c → Loud n (stir q n v)
  stirred Well c n v is some = subst (λ (o : Option Conn). t.0 < option_map_or (λ (d : Conn). d.session.heard.0) o t.0 + 60000) (sym some) (not_silent c (sym is))
  stirred Echo c n v is some =
      seen.said_has heard_at t.0 n (Within t.0) (now_within t.0) n (messages.EchoRequest []) v
      (subst (λ (o : Option Conn). t.0 < option_map_or (λ (d : Conn). d.session.heard.0) o t.0 + 60000) (sym some) (not_silent c (sym is)))
  stirred Silent c n v is some = gone n (close SilentClosing n v) (without_own n v.conns)

  look_own : (n : ℕ) (w : World) → w.moment ≡ t → Loud n (look n w)
  look_own n w shows = by (conn_with w.conns n) refl
    where
      by : (o : Option Conn) → conn_with w.conns n ≡ o → Loud n (option_map_or (look_on w) o w)
      by None none = gone n w none
      by (Some c) some =
          let q : Quiet = due_at c.session w.moment in
          let f : Conn → Conn = with_looked w.moment in
          let v : World = record w { conns = change c.number f w.conns } in
          let is : closes q ≡ is_silent t c = closes_silent w.moment (Some c) ∙ ap (λ (m : Moment). is_silent m c) shows in
          let at : conn_with v.conns n ≡ Some (f c) = ap (λ (k : ℕ). conn_with (change k f w.conns) n) (has_it n w.conns c some) ∙ changed_own f (λ d. refl) n w.conns ∙ ap (option_map f) some in
          subst (λ (k : ℕ). Loud n (stir q k v)) (sym (has_it n w.conns c some)) (stirred q (f c) n v is at)

  looks : (numbers : List ℕ) (n : ℕ) (w : World) → w.moment ≡ t → (list_any (λ (k : ℕ). k == n) numbers ≡ false → Loud n w) → Loud n (look_each numbers w)
  looks [] n w shows loud = loud refl
  looks (k ∷ ks) n w shows loud = looks ks n (look k w) (look_shows t k w shows) next
    where
      next : list_any (λ (x : ℕ). x == n) ks ≡ false → Loud n (look k w)
      next off =
          elim (cases_Bool (k == n)) [
            | inl own ↦ subst (λ (x : ℕ). Loud n (look x w)) (sym (eqb-true k n own)) (look_own n w shows)
            | inr other ↦ seen.looked_has heard_at t.0 n (Within t.0) (now_within t.0) k w (loud (ap (λ (b : Bool). b || list_any (λ (x : ℕ). x == n) ks) other ∙ off))
          ]

  numbers_open : (conns : List Conn) (n : ℕ) → list_any (λ (k : ℕ). k == n) (map (λ (c : Conn). c.number) conns) ≡ is_open conns n
  numbers_open [] n = refl
  numbers_open (c ∷ cs) n = ap (λ (b : Bool). (c.number == n) || b) (numbers_open cs n)

  pub all_looked : (n : ℕ) (w : World) → w.moment ≡ t → Loud n (look_each (map (λ (c : Conn). c.number) w.conns) w)
  all_looked n w shows =
      looks (map (λ (c : Conn). c.number) w.conns) n w shows
      (λ off. gone n w (shut_none n w.conns (sym (numbers_open w.conns n) ∙ off)))
