-- The frames of a piece: behind them less than a frame is unread.
use Rattle.std.proofs.Common.{◌≡◌, ℕ, zero, suc, ◌≤◌, ◌<◌, true, false, Option, Some, None, List, [], length, drop, nat_lt, refl, sym, ap, subst, ◌∙◌, arith, if◌then◌else◌}
use Rattle.std.specs.Option.{option_map, option_map_or}
use Rattle.std.proofs.lemmas.Bool.{lt-ltb}
use Rattle.net_base.specs.declared.numbers.Moment.{Moment}
use Rattle.of13_codec.specs.declared.message.Message.{Message}
use Rattle.switch_session.specs.declared.closing.Closing.{Closing}
use Rattle.switch_session.specs.declared.closing.Closing.TheVariants.{BadFrame}
use Rattle.switch_session.specs.Frames.{told_length}
use Rattle.ctl_world.specs.declared.conns.Conn.{Conn}
use Rattle.ctl_world.specs.declared.frames.Front.{Front}
use Rattle.ctl_world.specs.declared.frames.Front.TheVariants.{Part, Frame, Bad}
use Rattle.ctl_world.specs.Connections.{conn_with}
use Rattle.ctl_world.specs.Ends.{close, ended}
use Rattle.ctl_world.specs.Frames.{behind_frame, front, is_frame, with_read}
use Rattle.ctl_world.specs.Saying.{say}
use Rattle.ctl_world.specs.World.{World}
use Rattle.ctl_core.specs.Settlings.{settle}
use Rattle.ctl_life.specs.Life.{has_frame, read, says, unread}
use Rattle.ctl_world.proofs.Numbered.{changed_other, changed_own, without_own}
use Rattle.ctl_core.specs.Hearing.{hear_frame, hear_frames, hear_front, hear_next}
use Rattle.ctl_core.specs.Reloading.{accepted, reload}
use Rattle.ctl_core.specs.Turns.{pass}
use Rattle.law_lives.proofs.Fronts.{front_whole}
use Rattle.law_lives.proofs.Seen as seen

abbrev unread_of : Conn → List ℕ
unread_of c = c.session.unread

module _ (n : ℕ) (R : List ℕ → Type 0) (none : R []) where
  abbrev See : List ℕ → Moment → List ℕ
  See u t = u

  heard_has : (heard : Option (Message × ℕ)) (number : ℕ) (w : World) → R (unread n w) → R (unread n (hear_frame heard number w))
  heard_has = seen.heard_has See [] n R none

  pub close_has : (cause : Closing) (number : ℕ) (w : World) → R (unread n w) → R (unread n (close cause number w))
  close_has = seen.close_has See [] n R none

  pub ended_has : (cause : Closing) (number : ℕ) (w : World) → R (unread n w) → R (unread n (ended cause number w))
  ended_has = seen.ended_has See [] n R none

  pub said_has : (number : ℕ) (m : Message) (w : World) → R (unread n w) → R (unread n (say number m w))
  said_has = seen.said_has See [] n R none

  pub settled_has : (w : World) → R (unread n w) → R (unread n (settle w))
  settled_has = seen.settled_has See [] n R none

  pub passed_has : (moment : ℕ) (w : World) → R (unread n w) → R (unread n (pass moment w))
  passed_has = seen.passed_has See [] n R none

  pub reloaded_has : (text : List ℕ) (w : World) → R (unread n w) → R (unread n (reload (accepted text) w))
  reloaded_has = seen.reloaded_has See [] n R none

-- ---- the frames of a piece

abbrev IsPart : List ℕ → Type 0
IsPart bytes = front bytes ≡ Part

read_own : (number : ℕ) (w : World) → unread number (read number w) ≡ behind_frame (unread number w)
read_own number w =
    ap (λ (o : Option Conn). option_map_or unread_of o []) (changed_own with_read (λ c. refl) number w.conns)
    ∙ elim (conn_with w.conns number) as (λ o. option_map_or unread_of (option_map with_read o) [] ≡ behind_frame (option_map_or unread_of o [])) [ Some c ↦ refl | None ↦ refl ]

read_other : (number n : ℕ) → (n ≡ number → ⊥) → (w : World) → unread n (read number w) ≡ unread n w
read_other number n differs w = ap (λ (o : Option Conn). option_map_or unread_of o []) (changed_other with_read (λ c. refl) number n differs w.conns)

front_other : (number n : ℕ) → (n ≡ number → ⊥) → (f : Front) (w : World) → IsPart (unread n w) → IsPart (unread n (hear_front f number w))
front_other number n differs Part w is = is
front_other number n differs (Frame frame) w is = settled_has n IsPart refl (hear_frame (says frame) number w) (heard_has n IsPart refl (says frame) number w is)
front_other number n differs Bad w is = settled_has n IsPart refl (close BadFrame number w) (close_has n IsPart refl BadFrame number w is)

pub frames_other : (most number n : ℕ) → (n ≡ number → ⊥) → (w : World) → IsPart (unread n w) → IsPart (unread n (hear_frames most number w))
frames_other zero number n differs w is = is
frames_other (suc most) number n differs w is =
    let next : IsPart (unread n (hear_next number w)) = front_other number n differs (front (unread number w)) (read number w) (subst IsPart (sym (read_other number n differs w)) is) in
    elim (has_frame number w) as (λ b. IsPart (unread n (if b then hear_frames most number (hear_next number w) else hear_next number w))) [
      | true ↦ frames_other most number n differs (hear_next number w) next
      | false ↦ next
    ]

none_part : (bytes : List ℕ) → length bytes ≤ 0 → IsPart bytes
none_part bytes none = let less : length bytes < 8 = omega (arith, none) in let short : nat_lt (length bytes) 8 ≡ true = lt-ltb (length bytes) 8 less in rw short refl

-- a frame that is taken leaves fewer bytes, or closes the connection
shorter : (number : ℕ) (w : World) (frame : List ℕ) → front (unread number w) ≡ Frame frame → length (unread number (hear_front (Frame frame) number (read number w))) < length (unread number w)
shorter number w frame is =
    let less : length (behind_frame (unread number w)) < length (unread number w) = (front_whole (unread number w) frame is).shorter in
    let R : List ℕ → Type 0 = λ bytes. length bytes < length (unread number w) in
    let none : R [] = omega (arith, less) in
    let read_less : R (unread number (read number w)) = subst R (sym (read_own number w)) less in
    settled_has number R none (hear_frame (says frame) number (read number w)) (heard_has number R none (says frame) number (read number w) read_less)

closed_none : (number : ℕ) (w : World) → unread number (settle (close BadFrame number w)) ≡ []
closed_none number w =
    settled_has number (λ bytes. bytes ≡ []) refl (close BadFrame number w) (ap (λ (o : Option Conn). option_map_or unread_of o []) (without_own number w.conns))

abbrev PartBehind : ℕ → ℕ → World → Front → Type 0
PartBehind most number w f = IsPart (unread number (if is_frame f then hear_frames most number (hear_front f number (read number w)) else hear_front f number (read number w)))

part_by : (most number : ℕ) (w : World) → length (unread number w) ≤ suc most → ((v : World) → length (unread number v) ≤ most → IsPart (unread number (hear_frames most number v)))
    → (f : Front) → front (unread number w) ≡ f → PartBehind most number w f
part_by most number w within more Part is =
    subst IsPart (sym (read_own number w ∙ ap (λ (f : Front). if is_frame f then drop (told_length (unread number w)) (unread number w) else unread number w) is)) is
part_by most number w within more (Frame frame) is = more (hear_front (Frame frame) number (read number w)) (omega (arith, shorter number w frame is, within))
part_by most number w within more Bad is = subst IsPart (sym (closed_none number (read number w))) refl

pub frames_part : (most number : ℕ) (w : World) → length (unread number w) ≤ most → IsPart (unread number (hear_frames most number w))
frames_part zero number w within = none_part (unread number w) within
frames_part (suc most) number w within = part_by most number w within (frames_part most number) (front (unread number w)) refl
