-- Bytes in two pieces lead to the same as in one.
use Rattle.std.proofs.Common.{◌≡◌, ℕ, zero, suc, Bool, true, false, None, List, [], ◌∷◌, ◌++◌, length, refl, sym, ap, ◌∙◌, inl, inr, append_assoc, append-nil, if◌then◌else◌}
use Rattle.std.specs.Option.{option_map_or}
use Rattle.std.proofs.lemmas.Bool.{cases_Bool}
use Rattle.net_base.specs.declared.numbers.Moment.{Moment}
use Rattle.fg_outside.specs.declared.hub.Happening.{Happening}
use Rattle.fg_outside.specs.declared.hub.Happening.TheVariants.{Heard}
use Rattle.switch_session.specs.Connections.{Connection, fed}
use Rattle.ctl_world.specs.declared.conns.Conn.{Conn}
use Rattle.ctl_world.specs.declared.frames.Front.{Front}
use Rattle.ctl_world.specs.declared.said.Said.{Said}
use Rattle.ctl_world.specs.Connections.{change, conn_with, is_open, with_fed}
use Rattle.ctl_world.specs.Frames.{front}
use Rattle.ctl_world.specs.World.{World}
use Rattle.ctl_world.proofs.Places.{unchanged}
use Rattle.ctl_life.specs.Life.{has_frame, read, unread, feed}
use Rattle.ctl_core.specs.Hearing.{hear_frames, hear_front, hear_next}
use Rattle.ctl_core.specs.Story.{behind, said_by_turn}
use Rattle.ctl_core.specs.Turns.{hear, hear_all, turn, work}
use Rattle.ctl_world.proofs.Numbered.{change_id, change_same, shut_none}
use Rattle.law_recordings.specs.Pieces.{in_a_row, known_only}
use Rattle.law_recordings.proofs.Changes.{change_twice}
use Rattle.law_recordings.proofs.Touches.{Touch, touched}
use Rattle.law_recordings.proofs.Hears.{front_keeps}
use Rattle.law_recordings.proofs.Frames.{bytes_of, holding, none_heard}
use Rattle.law_recordings.proofs.Grown.{goes_on}

-- ---- the moment stays

next_moment : (number : ℕ) (w : World) → (hear_next number w).moment ≡ w.moment
next_moment number w = (front_keeps (holding 0 []) (front (unread number w)) number (read number w)).moment

frames_moment : (most number : ℕ) (w : World) → (hear_frames most number w).moment ≡ w.moment
frames_moment zero number w = refl
frames_moment (suc most) number w =
    elim (has_frame number w) as (λ b. (if b then hear_frames most number (hear_next number w) else hear_next number w).moment ≡ w.moment) [
      | true ↦ frames_moment most number (hear_next number w) ∙ next_moment number w
      | false ↦ next_moment number w
    ]

-- ---- bytes that come at a moment

abbrev fed_at : Moment → (number : ℕ) → (piece : List ℕ) → World → World
fed_at moment number piece w = record w { conns = change number (with_fed piece moment) w.conns }

fed_twice : (c : Connection) (first second : List ℕ) (moment : Moment) → fed (fed c first moment) second moment ≡ fed c (first ++ second) moment
fed_twice c [] second moment = refl
fed_twice c (byte ∷ first) [] moment = ap (λ (l : List ℕ). record c { heard = moment; echoed = false; unread = c.unread ++ byte ∷ l }) (sym (append-nil first))
fed_twice c (byte ∷ first) (other ∷ second) moment =
    ap (λ (l : List ℕ). record c { heard = moment; echoed = false; unread = l }) (append_assoc c.unread (byte ∷ first) (other ∷ second))

feeds : (moment : Moment) (number : ℕ) (first second : List ℕ) (w : World) → fed_at moment number second (fed_at moment number first w) ≡ fed_at moment number (first ++ second) w
feeds moment number first second w =
    ap (λ (conns : List Conn). record w { conns = conns })
    (change_twice (with_fed second moment) (with_fed first moment) (λ c. refl) number w.conns
    ∙ change_same (λ c. with_fed second moment (with_fed first moment c)) (with_fed (first ++ second) moment) number w.conns
    (λ c some. ap (λ (s : Connection). record c { session = s }) (fed_twice c.session first second moment)))

more_fed : (moment : Moment) (number : ℕ) (piece : List ℕ) (most : ℕ) (w : World)
    → hear_all number (fed_at moment number piece w) ≡ hear_all number (fed_at moment number piece (hear_frames most number w))
more_fed moment number [] most w = goes_on number (λ m. m) (λ b. b) (λ l. l) [] (λ l. sym (append-nil l)) most w
more_fed moment number (byte ∷ piece) most w = goes_on number (λ m. moment) (λ b. false) (λ l. l ++ byte ∷ piece) (byte ∷ piece) (λ l. refl) most w

hear_twice : (number : ℕ) (first second : List ℕ) (w : World) → hear number second (hear number first w) ≡ hear number (first ++ second) w
hear_twice number first second w =
    let came : World = feed number first w in
    let most : ℕ = length (unread number came) in
    ap (λ (moment : Moment). hear_all number (fed_at moment number second (hear_frames most number came))) (frames_moment most number came)
    ∙ sym (more_fed w.moment number second most came)
    ∙ ap (hear_all number) (feeds w.moment number first second w)

-- ---- what was said before stays before

abbrev said_before : List Said → World → World
said_before before w = record w { said = before ++ w.said }

module _ (before : List Said) where
  abbrev t : Touch
  t = record { number = 0; heard = λ m. m; echoed = λ b. b; unread = λ l. l; said = before }

  only_said : (w : World) → touched t w ≡ said_before before w
  only_said w = ap (λ (conns : List Conn). record (said_before before w) { conns = conns }) (change_id 0 w.conns)

  front_behind : (f : Front) (number : ℕ) (w : World) → hear_front f number (said_before before w) ≡ said_before before (hear_front f number w)
  front_behind f number w = ap (hear_front f number) (sym (only_said w)) ∙ (front_keeps t f number w).is ∙ only_said (hear_front f number w)

  frames_behind : (most number : ℕ) (w : World) → hear_frames most number (said_before before w) ≡ said_before before (hear_frames most number w)
  frames_behind zero number w = refl
  frames_behind (suc most) number w =
      let next : hear_next number (said_before before w) ≡ said_before before (hear_next number w) = front_behind (front (unread number w)) number (read number w) in
      elim (has_frame number w) as (λ b. (if b then hear_frames most number (hear_next number (said_before before w)) else hear_next number (said_before before w))
      ≡ said_before before (if b then hear_frames most number (hear_next number w) else hear_next number w)) [
        | true ↦ ap (hear_frames most number) next ∙ frames_behind most number (hear_next number w)
        | false ↦ next
      ]

  hear_behind : (number : ℕ) (piece : List ℕ) (w : World) → hear number piece (said_before before w) ≡ said_before before (hear number piece w)
  hear_behind number piece w = frames_behind (length (unread number (feed number piece w))) number (feed number piece w)

-- ---- where the connection isn't open, nothing is heard

shut_hear : (number : ℕ) (piece : List ℕ) (w : World) → is_open w.conns number ≡ false → hear number piece w ≡ w
shut_hear number piece w shut =
    let none : conn_with w.conns number ≡ None = shut_none number w.conns shut in
    ap (hear_all number) (ap (λ (conns : List Conn). record w { conns = conns }) (unchanged number (with_fed piece w.moment) w.conns none))
    ∙ none_heard (length (unread number w)) number w (ap (λ o. front (option_map_or bytes_of o [])) none)

turn_hears : (number : ℕ) (piece : List ℕ) (w : World) → turn (Heard number piece) w ≡ hear number piece (known_only w)
turn_hears number piece w =
    elim (cases_Bool (is_open w.conns number)) [
      | inl is_it ↦ ap (λ (b : Bool). if b then hear number piece (known_only w) else known_only w) is_it
      | inr shut ↦ ap (λ (b : Bool). if b then hear number piece (known_only w) else known_only w) shut ∙ sym (shut_hear number piece (known_only w) shut)
    ]

-- ---- two turns, and one

one_turn : (number : ℕ) (first second : List ℕ) (w : World)
    → turn (Heard number (first ++ second)) w ≡ said_before (turn (Heard number first) w).said (turn (Heard number second) (turn (Heard number first) w))
one_turn number first second w =
    let v : World = turn (Heard number first) w in
    let apart : said_before v.said (turn (Heard number second) v) ≡ hear number second v =
    ap (said_before v.said) (turn_hears number second v) ∙ sym (hear_behind v.said number second (known_only v))
    ∙ ap (λ (s : List Said). hear number second (record v { said = s })) (append-nil v.said) in
    turn_hears number (first ++ second) w ∙ sym (hear_twice number first second (known_only w)) ∙ ap (hear number second) (sym (turn_hears number first w)) ∙ sym apart

behind_known : (v w : World) → known_only v ≡ known_only w → (more : List Happening) → known_only (behind v more) ≡ known_only (behind w more)
behind_known v w same [] = same
behind_known v w same (h ∷ hs) = ap (λ (x : World). known_only (behind (work h x) hs)) same

said_known : (v w : World) → known_only v ≡ known_only w → (more : List Happening) → said_by_turn v more ≡ said_by_turn w more
said_known v w same [] = refl
said_known v w same (h ∷ hs) = ap (λ (x : World). (work h x).said ∷ said_by_turn (work h x) hs) same

module _ (number : ℕ) (first second : List ℕ) (w : World) (more : List Happening) where
  abbrev begun : World
  begun = turn (Heard number first) w

  abbrev done : World
  done = turn (Heard number second) begun

  abbrev at_once : World
  at_once = turn (Heard number (first ++ second)) w

  same_known : known_only done ≡ known_only at_once
  same_known = ap known_only (sym (one_turn number first second w))

  pub known_so : known_only (behind w (Heard number first ∷ Heard number second ∷ more)) ≡ known_only (behind w (Heard number (first ++ second) ∷ more))
  known_so = behind_known done at_once same_known more

  pub said_so : in_a_row (said_by_turn w (Heard number first ∷ Heard number second ∷ more)) ≡ in_a_row (said_by_turn w (Heard number (first ++ second) ∷ more))
  said_so =
      ap (λ (turns : List (List Said)). begun.said ++ (done.said ++ in_a_row turns)) (said_known done at_once same_known more)
      ∙ sym (append_assoc begun.said done.said (in_a_row (said_by_turn at_once more)))
      ∙ ap (λ (s : List Said). s ++ in_a_row (said_by_turn at_once more)) (ap (λ (x : World). x.said) (sym (one_turn number first second w)))
