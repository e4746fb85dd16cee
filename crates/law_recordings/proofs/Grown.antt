-- Where more bytes come behind those that are unread, the frames that were whole before are heard as before.
use Rattle.std.proofs.Common.{◌≡◌, ℕ, zero, suc, ◌≤◌, ◌<◌, Bool, Option, Some, None, List, [], ◌∷◌, ◌++◌, length, refl, sym, subst, ap, ◌∙◌, arith}
use Rattle.std.specs.Option.{option_map_or}
use Rattle.net_base.specs.declared.numbers.Moment.{Moment}
use Rattle.switch_session.specs.declared.closing.Closing.TheVariants.{BadFrame}
use Rattle.ctl_world.specs.declared.conns.Conn.{Conn}
use Rattle.ctl_world.specs.declared.frames.Front.TheVariants.{Bad}
use Rattle.ctl_world.specs.declared.said.Said.TheVariants as said
use Rattle.ctl_world.specs.Connections.{conn_with}
use Rattle.ctl_world.specs.Ends.{end_line, forget_lost}
use Rattle.ctl_world.specs.Frames.{behind_frame, front, with_read}
use Rattle.ctl_world.specs.Saying.{add_said}
use Rattle.ctl_world.specs.World.{World}
use Rattle.ctl_core.specs.Settlings.{settle}
use Rattle.ctl_life.specs.Life.{read, unread}
use Rattle.ctl_core.specs.Hearing.{hear_frames, hear_front, hear_next}
use Rattle.ctl_core.specs.Turns.{hear_all}
use Rattle.ctl_world.proofs.Numbered.{change_same}
use Rattle.law_recordings.proofs.Changes.{change_twice, without_changed}
use Rattle.law_recordings.proofs.Touches.{Touch, touch, touched}
use Rattle.law_recordings.proofs.Hears.{front_keeps}
use Rattle.law_recordings.proofs.Fronts.{IsBad, IsWhole, bad, bad_front, bad_more, behind_more, front_more, fronts, part, whole, whole_more}
use Rattle.law_recordings.proofs.Frames.{bad_last, bytes_of, enough, holding, last, more, next_shorter, none_heard, unread_touched, whole_first}

-- a change of a connection alone
abbrev pub quiet : (number : ℕ) → (Moment → Moment) → (Bool → Bool) → (List ℕ → List ℕ) → Touch
quiet number heard echoed waits = record { number = number; heard = heard; echoed = echoed; unread = waits; said = [] }

-- ---- a bad header closes the connection, whatever was changed of it

module _ (number : ℕ) (heard : Moment → Moment) (echoed : Bool → Bool) (waits : List ℕ → List ℕ) (w : World) where
  pub closing_same : hear_front Bad number (touched (quiet number heard echoed waits) w) ≡ hear_front Bad number w
  closing_same =
      ap (λ (conns : List Conn). settle (add_said (said.Closing number BadFrame ∷ end_line number BadFrame ∷ []) (forget_lost (record w { conns = conns }))))
      (without_changed (touch (quiet number heard echoed waits)) (λ c. refl) number w.conns)

  pub closed_same : touched (quiet number heard echoed waits) (hear_front Bad number w) ≡ hear_front Bad number w
  closed_same = sym (front_keeps (quiet number heard echoed waits) Bad number w).is ∙ closing_same

nothing_held : (o : Option Conn) → option_map_or {T = Conn} {U = List ℕ} (λ c. []) o [] ≡ []
nothing_held (Some c) = refl
nothing_held None = refl

closed_unread : (number : ℕ) (w : World) → unread number (hear_front Bad number w) ≡ []
closed_unread number w =
    let v : World = hear_front Bad number w in
    ap (unread number) (sym (closed_same number (λ m. m) (λ b. b) (λ l. []) w)) ∙ unread_touched (holding number []) v ∙ nothing_held (conn_with v.conns number)

bad_next : (number : ℕ) (w : World) → IsBad (unread number w) → hear_next number w ≡ hear_front Bad number w
bad_next number w is = ap (λ f. hear_front f number (read number w)) (bad_front (unread number w) is) ∙ closing_same number (λ m. m) (λ b. b) behind_frame w

closed_heard : (most number : ℕ) (w : World) → hear_frames most number (hear_front Bad number w) ≡ hear_front Bad number w
closed_heard most number w = none_heard most number (hear_front Bad number w) (ap front (closed_unread number w))

all_heard : (number : ℕ) (w : World) → hear_all number w ≡ hear_frames (suc (length (unread number w))) number w
all_heard number w = enough (length (unread number w)) (suc (length (unread number w))) number w (omega arith) (omega arith)

module _ (number : ℕ) (heard : Moment → Moment) (echoed : Bool → Bool) (waits : List ℕ → List ℕ) (rest : List ℕ) (grows : (l : List ℕ) → waits l ≡ l ++ rest) where
  abbrev t : Touch
  t = quiet number heard echoed waits

  grown_by : (o : Option Conn) → 8 ≤ length (option_map_or bytes_of o []) → option_map_or (λ c. waits (bytes_of c)) o [] ≡ option_map_or bytes_of o [] ++ rest
  grown_by (Some c) long = grows (bytes_of c)
  grown_by None long = absurd (omega arith)

  grown : (w : World) → 8 ≤ length (unread number w) → unread number (touched t w) ≡ unread number w ++ rest
  grown w long = unread_touched t w ∙ grown_by (conn_with w.conns number) long

  whole_grown : (w : World) → IsWhole (unread number w) → unread number (touched t w) ≡ unread number w ++ rest
  whole_grown w is = let h = is.header in let a = is.all in grown w (omega arith)

  -- ---- a frame

  read_swaps : (w : World) → IsWhole (unread number w) → read number (touched t w) ≡ touched t (read number w)
  read_swaps w is =
      let swaps : (c : Conn) → conn_with w.conns number ≡ Some c → with_read (touch t c) ≡ touch t (with_read c) = λ c some.
      let here : IsWhole (bytes_of c) = subst (λ (o : Option Conn). IsWhole (option_map_or bytes_of o [])) some is in
      ap (λ (l : List ℕ). record c { session = record c.session { heard = heard c.session.heard; echoed = echoed c.session.echoed; unread = l } })
      (ap behind_frame (grows (bytes_of c)) ∙ behind_more (bytes_of c) rest here ∙ sym (grows (behind_frame (bytes_of c)))) in
      ap (λ (conns : List Conn). record w { conns = conns })
      (change_twice with_read (touch t) (λ c. refl) number w.conns ∙ change_same (λ c. with_read (touch t c)) (λ c. touch t (with_read c)) number w.conns swaps
      ∙ sym (change_twice (touch t) with_read (λ c. refl) number w.conns))

  whole_next : (w : World) → IsWhole (unread number w) → hear_next number (touched t w) ≡ touched t (hear_next number w)
  whole_next w is =
      ap (λ f. hear_front f number (read number (touched t w))) (ap front (whole_grown w is) ∙ front_more (unread number w) rest is)
      ∙ ap (hear_front (front (unread number w)) number) (read_swaps w is)
      ∙ (front_keeps t (front (unread number w)) number (read number w)).is

  whole_step : (w : World) → IsWhole (unread number w) → hear_all number (touched t w) ≡ hear_all number (touched t (hear_next number w))
  whole_step w is =
      let v : World = touched t w in
      let u : World = touched t (hear_next number w) in
      let there : IsWhole (unread number v) = subst IsWhole (sym (whole_grown w is)) (whole_more (unread number w) rest is) in
      let next : hear_next number v ≡ u = whole_next w is in
      let shorter : length (unread number (hear_next number v)) < length (unread number v) = next_shorter number v there in
      let same : length (unread number (hear_next number v)) ≡ length (unread number u) = ap (λ (x : World). length (unread number x)) next in
      all_heard number v ∙ more (length (unread number v)) number v (whole_first number v there) ∙ ap (hear_frames (length (unread number v)) number) next
      ∙ enough (length (unread number v)) (length (unread number u)) number u (omega arith) (omega arith)

  -- ---- a bad header

  bad_step : (w : World) → IsBad (unread number w) → hear_all number (touched t w) ≡ hear_front Bad number w
  bad_step w is =
      let v : World = touched t w in
      let there : IsBad (unread number v) = subst IsBad (sym (grown w is.header)) (bad_more (unread number w) rest is) in
      all_heard number v ∙ last (length (unread number v)) number v (bad_last number v there) ∙ bad_next number v there ∙ closing_same number heard echoed waits w

  bad_steps : (most : ℕ) (w : World) → IsBad (unread number w) → hear_all number (touched t (hear_frames (suc most) number w)) ≡ hear_front Bad number w
  bad_steps most w is =
      let v : World = hear_front Bad number w in
      ap (λ (x : World). hear_all number (touched t x)) (last most number w (bad_last number w is) ∙ bad_next number w is)
      ∙ ap (hear_all number) (closed_same number heard echoed waits w) ∙ closed_heard (length (unread number v)) number w

  -- ---- any number of frames

  pub goes_on : (most : ℕ) (w : World) → hear_all number (touched t w) ≡ hear_all number (touched t (hear_frames most number w))
  goes_on zero w = refl
  goes_on (suc most) w =
      let all : World → World = λ x. hear_all number (touched t x) in
      elim (fronts (unread number w)) [
        | part is ↦ ap all (sym (none_heard (suc most) number w is))
        | whole is ↦ whole_step w is ∙ goes_on most (hear_next number w) ∙ ap all (sym (more most number w (whole_first number w is)))
        | bad is ↦ bad_step w is ∙ sym (bad_steps most w is)
      ]
