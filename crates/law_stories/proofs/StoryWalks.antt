-- What each part of a turn keeps holds behind a story, and just before each of its settlings.
use Rattle.std.proofs.Common.{◌≡◌, ℕ, zero, suc, Bool, true, false, None, List, [], ◌∷◌, ◌++◌, length, refl, sym, subst, append_assoc, if◌then◌else◌}
use Rattle.std.specs.List.{AllByRecursion}
use Rattle.std.proofs.lemmas.List.{append-nil}
use Rattle.fg_outside.specs.declared.hub.EndCause.{EndCause}
use Rattle.fg_outside.specs.declared.hub.Happening.{Happening}
use Rattle.fg_outside.specs.declared.hub.Happening.TheVariants as happenings
use Rattle.of_match.proofs.AfterOrder.{all_append}
use Rattle.switch_session.specs.declared.closing.Closing.{Closing}
use Rattle.ctl_world.specs.declared.frames.Front.{Front}
use Rattle.ctl_world.specs.declared.frames.Front.TheVariants.{Part, Frame, Bad}
use Rattle.ctl_world.specs.declared.said.Said.{Said}
use Rattle.ctl_world.specs.Connections.{is_open}
use Rattle.ctl_world.specs.Ends.{ended}
use Rattle.ctl_world.specs.Frames.{front}
use Rattle.ctl_world.specs.World.{World}
use Rattle.ctl_core.specs.Settlings.{settle}
use Rattle.ctl_life.specs.Life.{has_frame, read, says, unread, closing_for, feed, open_conn}
use Rattle.ctl_core.specs.Hearing.{hear_frame, hear_frames, hear_front, hear_next}
use Rattle.ctl_core.specs.Reloading.{accepted, reload}
use Rattle.ctl_core.specs.Story.{behind}
use Rattle.ctl_core.specs.Turns.{hear, pass, turn, work}
use Rattle.law_stories.specs.Settlings.{Settling, at_frames, at_front, at_next, at_piece, at_work, said_in, settlings_behind}

-- of what is heard, each piece is such
abbrev pub OnPiece : (List ℕ → Type 0) → Happening → Type 0
OnPiece B (happenings.Opened number) = Unit {0}
OnPiece B (happenings.Heard number piece) = B piece
OnPiece B (happenings.Closed number cause) = Unit {0}
OnPiece B (happenings.Moment moment) = Unit {0}
OnPiece B (happenings.Reload text) = Unit {0}

pub any_piece : (h : Happening) → OnPiece (λ piece. Unit {0}) h
any_piece (happenings.Opened number) = tt
any_piece (happenings.Heard number piece) = tt
any_piece (happenings.Closed number cause) = tt
any_piece (happenings.Moment moment) = tt
any_piece (happenings.Reload text) = tt

pub any_pieces : (story : List Happening) → AllByRecursion (OnPiece (λ piece. Unit {0})) story
any_pieces [] = tt
any_pieces (h ∷ hs) = (any_piece h, any_pieces hs)

-- what each part of a turn keeps, where this was said in the turns before
pub record Walks (B : List ℕ → Type 0) (J : List Said → World → Type 0) : Type 0 where
  pub unsaid : (past : List Said) (w : World) → J past w → J (past ++ w.said) (record w { said = [] })
  pub opens : (past : List Said) (number : ℕ) (w : World) → is_open w.conns number ≡ false → J past w → J past (open_conn number w)
  pub feeds : (past : List Said) (number : ℕ) (piece : List ℕ) (w : World) → B piece → J past w → J past (feed number piece w)
  pub reads : (past : List Said) (number : ℕ) (w : World) → J past w → J past (read number w)
  pub hears : (past : List Said) (frame : List ℕ) (number : ℕ) (w : World) → front (unread number w) ≡ Frame frame → J past w → J past (hear_frame (says frame) number (read number w))
  pub fails : (past : List Said) (number : ℕ) (w : World) → front (unread number w) ≡ Bad → J past w → J past (hear_frame None number (read number w))
  pub ends : (past : List Said) (cause : Closing) (number : ℕ) (w : World) → J past w → J past (ended cause number w)
  pub passes : (past : List Said) (moment : ℕ) (w : World) → J past w → J past (pass moment w)
  pub reloads : (past : List Said) (text : List ℕ) (w : World) → J past w → J past (reload (accepted text) w)
  pub settles : (past : List Said) (w : World) → J past w → J past (settle w)

module _ (B : List ℕ → Type 0) (J : List Said → World → Type 0) (walks : Walks B J) (past : List Said) where
  pub front_kept : (number : ℕ) (w : World) → J past w → (f : Front) → front (unread number w) ≡ f → J past (hear_front f number (read number w))
  front_kept number w holds Part is = walks.reads past number w holds
  front_kept number w holds (Frame frame) is = walks.settles past (hear_frame (says frame) number (read number w)) (walks.hears past frame number w is holds)
  front_kept number w holds Bad is = walks.settles past (hear_frame None number (read number w)) (walks.fails past number w is holds)

  pub next_kept : (number : ℕ) (w : World) → J past w → J past (hear_next number w)
  next_kept number w holds = front_kept number w holds (front (unread number w)) refl

  frames_kept : (most number : ℕ) (w : World) → J past w → J past (hear_frames most number w)
  frames_kept zero number w holds = holds
  frames_kept (suc most) number w holds =
      elim (has_frame number w) as (λ b. J past (if b then hear_frames most number (hear_next number w) else hear_next number w)) [
        | true ↦ frames_kept most number (hear_next number w) (next_kept number w holds)
        | false ↦ next_kept number w holds
      ]

  open_kept : (number : ℕ) (w : World) → J past w → (b : Bool) → is_open w.conns number ≡ b → J past (if b then w else settle (open_conn number w))
  open_kept number w holds true is = holds
  open_kept number w holds false is = walks.settles past (open_conn number w) (walks.opens past number w is holds)

  hear_kept : (number : ℕ) (piece : List ℕ) (w : World) → B piece → J past w → J past (hear number piece w)
  hear_kept number piece w such holds =
      let fed : World = feed number piece w in
      frames_kept (length (unread number fed)) number fed (walks.feeds past number piece w such holds)

  end_kept : (cause : EndCause) (number : ℕ) (w : World) → J past w → J past (settle (ended (closing_for cause) number w))
  end_kept cause number w holds = walks.settles past (ended (closing_for cause) number w) (walks.ends past (closing_for cause) number w holds)

  pub work_kept : (h : Happening) (w : World) → OnPiece B h → J past w → J past (work h w)
  work_kept (happenings.Opened number) w such holds = open_kept number w holds (is_open w.conns number) refl
  work_kept (happenings.Heard number piece) w such holds =
      elim (is_open w.conns number) as (λ b. J past (if b then hear number piece w else w)) [ true ↦ hear_kept number piece w such holds | false ↦ holds ]
  work_kept (happenings.Closed number cause) w such holds =
      elim (is_open w.conns number) as (λ b. J past (if b then settle (ended (closing_for cause) number w) else w)) [ true ↦ end_kept cause number w holds | false ↦ holds ]
  work_kept (happenings.Moment moment) w such holds = walks.settles past (pass moment w) (walks.passes past moment w holds)
  work_kept (happenings.Reload text) w such holds = walks.settles past (reload (accepted text) w) (walks.reloads past text w holds)

  -- ---- just before each settling

  module _ (G : Settling → Type 0) (sees : (past : List Said) (w : World) → J past w → G (record { past = past; before = w })) where
    front_seen : (number : ℕ) (w : World) → J past w → (f : Front) → front (unread number w) ≡ f → AllByRecursion G (at_front past f number (read number w))
    front_seen number w holds Part is = tt
    front_seen number w holds (Frame frame) is = (sees past (hear_frame (says frame) number (read number w)) (walks.hears past frame number w is holds), tt)
    front_seen number w holds Bad is = (sees past (hear_frame None number (read number w)) (walks.fails past number w is holds), tt)

    next_seen : (number : ℕ) (w : World) → J past w → AllByRecursion G (at_next past number w)
    next_seen number w holds = front_seen number w holds (front (unread number w)) refl

    frames_seen : (most number : ℕ) (w : World) → J past w → AllByRecursion G (at_frames past most number w)
    frames_seen zero number w holds = tt
    frames_seen (suc most) number w holds =
        all_append G (at_next past number w) (if has_frame number w then at_frames past most number (hear_next number w) else []) (next_seen number w holds)
        (elim (has_frame number w) as (λ b. AllByRecursion G (if b then at_frames past most number (hear_next number w) else [])) [
          | true ↦ frames_seen most number (hear_next number w) (next_kept number w holds)
          | false ↦ tt
        ])

    piece_seen : (number : ℕ) (piece : List ℕ) (w : World) → B piece → J past w → AllByRecursion G (at_piece past number (feed number piece w))
    piece_seen number piece w such holds =
        let fed : World = feed number piece w in
        frames_seen (length (unread number fed)) number fed (walks.feeds past number piece w such holds)

    open_seen : (number : ℕ) (w : World) → J past w → (b : Bool) → is_open w.conns number ≡ b → AllByRecursion G (if b then [] else record { past = past; before = open_conn number w } ∷ [])
    open_seen number w holds true is = tt
    open_seen number w holds false is = (sees past (open_conn number w) (walks.opens past number w is holds), tt)

    work_seen : (h : Happening) (w : World) → OnPiece B h → J past w → AllByRecursion G (at_work past h w)
    work_seen (happenings.Opened number) w such holds = open_seen number w holds (is_open w.conns number) refl
    work_seen (happenings.Heard number piece) w such holds =
        elim (is_open w.conns number) as (λ b. AllByRecursion G (if b then at_piece past number (feed number piece w) else [])) [ true ↦ piece_seen number piece w such holds | false ↦ tt ]
    work_seen (happenings.Closed number cause) w such holds =
        elim (is_open w.conns number) as (λ b. AllByRecursion G (if b then record { past = past; before = ended (closing_for cause) number w } ∷ [] else [])) [
          | true ↦ (sees past (ended (closing_for cause) number w) (walks.ends past (closing_for cause) number w holds), tt)
          | false ↦ tt
        ]
    work_seen (happenings.Moment moment) w such holds = (sees past (pass moment w) (walks.passes past moment w holds), tt)
    work_seen (happenings.Reload text) w such holds = (sees past (reload (accepted text) w) (walks.reloads past text w holds), tt)

-- ---- a story

module _ (B : List ℕ → Type 0) (J : List Said → World → Type 0) (walks : Walks B J) where
  pub story_kept : (past : List Said) (w : World) (story : List Happening) → AllByRecursion (OnPiece B) story → J past (record w { said = [] })
      → J (past ++ said_in w story) (record (behind w story) { said = [] })
  story_kept past w [] such holds = subst (λ (all : List Said). J all (record w { said = [] })) (sym (append-nil past)) holds
  story_kept past w (h ∷ hs) such holds =
      let v : World = turn h w in
      subst (λ (all : List Said). J all (record (behind v hs) { said = [] })) (append_assoc past v.said (said_in v hs))
      (story_kept (past ++ v.said) v hs such.1 (walks.unsaid past v (work_kept B J walks past h (record w { said = [] }) such.0 holds)))

  pub story_seen : (G : Settling → Type 0) → ((past : List Said) (w : World) → J past w → G (record { past = past; before = w })) → (past : List Said) (w : World) (story : List Happening)
      → AllByRecursion (OnPiece B) story → J past (record w { said = [] }) → AllByRecursion G (settlings_behind past w story)
  story_seen G sees past w [] such holds = tt
  story_seen G sees past w (h ∷ hs) such holds =
      let v : World = turn h w in
      all_append G (at_work past h (record w { said = [] })) (settlings_behind (past ++ v.said) v hs) (work_seen B J walks past G sees h (record w { said = [] }) such.0 holds)
      (story_seen G sees (past ++ v.said) v hs such.1 (walks.unsaid past v (work_kept B J walks past h (record w { said = [] }) such.0 holds)))
