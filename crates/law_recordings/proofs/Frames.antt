-- All frames of a connection, where more bytes come behind them.
use Rattle.std.proofs.Common.{◌≡◌, ℕ, zero, suc, ◌≤◌, ◌<◌, Bool, true, false, Option, Some, None, List, [], length, refl, sym, ap, ◌∙◌, arith, if◌then◌else◌}
use Rattle.std.specs.Option.{option_map, option_map_or}
use Rattle.ctl_world.specs.declared.conns.Conn.{Conn}
use Rattle.ctl_world.specs.declared.frames.Front.{Front}
use Rattle.ctl_world.specs.declared.frames.Front.TheVariants.{Part}
use Rattle.ctl_world.specs.Connections.{conn_with}
use Rattle.ctl_world.specs.Frames.{behind_frame, front, is_frame, with_read}
use Rattle.ctl_world.specs.World.{World}
use Rattle.ctl_life.specs.Life.{has_frame, read, unread}
use Rattle.ctl_core.specs.Hearing.{hear_frames, hear_front, hear_next}
use Rattle.ctl_world.proofs.Numbered.{change_kept, changed_own}
use Rattle.law_recordings.proofs.Touches.{Touch, touch, touched}
use Rattle.law_recordings.proofs.Hears.{front_keeps}
use Rattle.law_recordings.proofs.Fronts.{IsBad, IsWhole, bad, bad_front, fronts, part, whole, whole_front, whole_shorter}

-- ---- what is unread

abbrev pub bytes_of : Conn → List ℕ
bytes_of c = c.session.unread

pub unread_touched : (t : Touch) (w : World) → unread t.number (touched t w) ≡ option_map_or (λ c. t.unread (bytes_of c)) (conn_with w.conns t.number) []
unread_touched t w =
    ap (λ (o : Option Conn). option_map_or bytes_of o []) (changed_own (touch t) (λ c. refl) t.number w.conns)
    ∙ elim (conn_with w.conns t.number) as (λ o. option_map_or bytes_of (option_map (touch t) o) [] ≡ option_map_or (λ c. t.unread (bytes_of c)) o []) [ Some c ↦ refl | None ↦ refl ]

-- nothing but the unread bytes is changed: they are these
abbrev pub holding : ℕ → List ℕ → Touch
holding number bytes = record { number = number; heard = λ m. m; echoed = λ b. b; unread = λ l. bytes; said = [] }

held_kept : (number : ℕ) (w : World) → touched (holding number (unread number w)) w ≡ w
held_kept number w =
    let t : Touch = holding number (unread number w) in
    let kept : (c : Conn) → conn_with w.conns number ≡ Some c → touch t c ≡ c =
    λ c some. ap (λ (l : List ℕ). record c { session = record c.session { unread = l } }) (ap (λ (o : Option Conn). option_map_or bytes_of o []) some) in
    ap (λ (conns : List Conn). record w { conns = conns }) (change_kept (touch t) number w.conns kept)

held_length : (bytes : List ℕ) (o : Option Conn) → length (option_map_or (λ (c : Conn). bytes) o []) ≤ length bytes
held_length bytes (Some c) = omega arith
held_length bytes None = omega arith

-- a front that was taken leaves what is unread, or closes the connection
front_unread : (f : Front) (number : ℕ) (w : World) → length (unread number (hear_front f number w)) ≤ length (unread number w)
front_unread f number w =
    let t : Touch = holding number (unread number w) in
    let done : hear_front f number w ≡ touched t (hear_front f number w) = ap (hear_front f number) (sym (held_kept number w)) ∙ (front_keeps t f number w).is in
    let e : unread number (hear_front f number w) ≡ option_map_or (λ c. unread number w) (conn_with (hear_front f number w).conns number) [] =
    ap (unread number) done ∙ unread_touched t (hear_front f number w) in
    rw e (held_length (unread number w) (conn_with (hear_front f number w).conns number))

read_unread : (number : ℕ) (w : World) → unread number (read number w) ≡ behind_frame (unread number w)
read_unread number w =
    ap (λ (o : Option Conn). option_map_or bytes_of o []) (changed_own with_read (λ c. refl) number w.conns)
    ∙ elim (conn_with w.conns number) as (λ o. option_map_or bytes_of (option_map with_read o) [] ≡ behind_frame (option_map_or bytes_of o [])) [ Some c ↦ refl | None ↦ refl ]

-- ---- enough frames

pub next_shorter : (number : ℕ) (w : World) → IsWhole (unread number w) → length (unread number (hear_next number w)) < length (unread number w)
next_shorter number w is =
    omega (arith, front_unread (front (unread number w)) number (read number w), ap length (read_unread number w), whole_shorter (unread number w) is)

-- what is done where no frame is at the front, and where one is
pub last : (most number : ℕ) (w : World) → has_frame number w ≡ false → hear_frames (suc most) number w ≡ hear_next number w
last most number w none = ap (λ (b : Bool). if b then hear_frames most number (hear_next number w) else hear_next number w) none

pub more : (most number : ℕ) (w : World) → has_frame number w ≡ true → hear_frames (suc most) number w ≡ hear_frames most number (hear_next number w)
more most number w some = ap (λ (b : Bool). if b then hear_frames most number (hear_next number w) else hear_next number w) some

part_last : (number : ℕ) (w : World) → front (unread number w) ≡ Part → has_frame number w ≡ false
part_last number w is = ap is_frame is

pub bad_last : (number : ℕ) (w : World) → IsBad (unread number w) → has_frame number w ≡ false
bad_last number w is = ap is_frame (bad_front (unread number w) is)

pub whole_first : (number : ℕ) (w : World) → IsWhole (unread number w) → has_frame number w ≡ true
whole_first number w is = ap is_frame (whole_front (unread number w) is)

-- part of a frame is left unread
part_read : (number : ℕ) (w : World) → front (unread number w) ≡ Part → read number w ≡ w
part_read number w is =
    let kept : (c : Conn) → conn_with w.conns number ≡ Some c → with_read c ≡ c = λ c some.
    let here : front (bytes_of c) ≡ Part = ap (λ (o : Option Conn). front (option_map_or bytes_of o [])) (sym some) ∙ is in
    ap (λ (l : List ℕ). record c { session = record c.session { unread = l } }) (rw here refl) in
    ap (λ (conns : List Conn). record w { conns = conns }) (change_kept with_read number w.conns kept)

part_next : (number : ℕ) (w : World) → front (unread number w) ≡ Part → hear_next number w ≡ w
part_next number w is = ap (λ f. hear_front f number (read number w)) is ∙ part_read number w is

none_is_part : (number : ℕ) (w : World) → length (unread number w) ≤ 0 → front (unread number w) ≡ Part
none_is_part number w none =
    elim (fronts (unread number w)) [
      | part is ↦ is
      | whole is ↦ let h = is.header in let a = is.all in absurd (omega arith)
      | bad is ↦ let h = is.header in absurd (omega arith)
    ]

pub none_heard : (most number : ℕ) (w : World) → front (unread number w) ≡ Part → hear_frames most number w ≡ w
none_heard zero number w is = refl
none_heard (suc most) number w is = last most number w (part_last number w is) ∙ part_next number w is

pub enough : (m n number : ℕ) (w : World) → length (unread number w) ≤ m → length (unread number w) ≤ n → hear_frames m number w ≡ hear_frames n number w
enough zero n number w in_m in_n = sym (none_heard n number w (none_is_part number w in_m))
enough (suc m) zero number w in_m in_n = none_heard (suc m) number w (none_is_part number w in_n)
enough (suc m) (suc n) number w in_m in_n =
    elim (fronts (unread number w)) [
      | part is ↦ last m number w (part_last number w is) ∙ sym (last n number w (part_last number w is))
      | whole is ↦
          let less = next_shorter number w is in
          more m number w (whole_first number w is) ∙ enough m n number (hear_next number w) (omega arith) (omega arith) ∙ sym (more n number w (whole_first number w is))
      | bad is ↦ last m number w (bad_last number w is) ∙ sym (last n number w (bad_last number w is))
    ]
