-- What each turn keeps holds behind a story.
use Rattle.std.proofs.Common.{◌≡◌, ℕ, zero, suc, Bool, true, false, Option, None, List, [], ◌∷◌, length, refl, if◌then◌else◌}
use Rattle.fg_outside.specs.declared.hub.Happening.{Happening}
use Rattle.fg_outside.specs.declared.hub.Happening.TheVariants as happenings
use Rattle.of13_codec.specs.declared.message.Message.{Message}
use Rattle.switch_session.specs.declared.closing.Closing.{Closing}
use Rattle.ctl_world.specs.declared.frames.Front.{Front}
use Rattle.ctl_world.specs.declared.frames.Front.TheVariants.{Part, Frame, Bad}
use Rattle.ctl_world.specs.Connections.{is_open}
use Rattle.ctl_world.specs.Ends.{ended}
use Rattle.ctl_world.specs.Frames.{front}
use Rattle.ctl_world.specs.World.{World}
use Rattle.ctl_core.specs.Settlings.{settle}
use Rattle.ctl_life.specs.Life.{has_frame, read, says, unread, closing_for, feed, open_conn}
use Rattle.ctl_core.specs.Hearing.{hear_frame, hear_frames, hear_front, hear_next}
use Rattle.ctl_core.specs.Reloading.{accepted, reload}
use Rattle.ctl_core.specs.Story.{behind}
use Rattle.ctl_core.specs.Turns.{hear, pass, turn, work}

-- what each part of a turn keeps, with the settling behind it
pub record Keeps (J : World → Type 0) : Type 0 where
  pub unsaid : (w : World) → J w → J (record w { said = [] })
  pub opens : (number : ℕ) (w : World) → is_open w.conns number ≡ false → J w → J (settle (open_conn number w))
  pub feeds : (number : ℕ) (piece : List ℕ) (w : World) → J w → J (feed number piece w)
  pub reads : (number : ℕ) (w : World) → J w → J (read number w)
  pub hears : (said : Option (Message × ℕ)) (number : ℕ) (w : World) → J w → J (settle (hear_frame said number w))
  pub ends : (cause : Closing) (number : ℕ) (w : World) → J w → J (settle (ended cause number w))
  pub passes : (moment : ℕ) (w : World) → J w → J (settle (pass moment w))
  pub reloads : (text : List ℕ) (w : World) → J w → J (settle (reload (accepted text) w))

module _ (J : World → Type 0) (keeps : Keeps J) where
  front_kept : (f : Front) (number : ℕ) (w : World) → J w → J (hear_front f number w)
  front_kept Part number w holds = holds
  front_kept (Frame frame) number w holds = keeps.hears (says frame) number w holds
  front_kept Bad number w holds = keeps.hears None number w holds

  next_kept : (number : ℕ) (w : World) → J w → J (hear_next number w)
  next_kept number w holds = front_kept (front (unread number w)) number (read number w) (keeps.reads number w holds)

  frames_kept : (most number : ℕ) (w : World) → J w → J (hear_frames most number w)
  frames_kept zero number w holds = holds
  frames_kept (suc most) number w holds =
      elim (has_frame number w) as (λ b. J (if b then hear_frames most number (hear_next number w) else hear_next number w)) [
        | true ↦ frames_kept most number (hear_next number w) (next_kept number w holds)
        | false ↦ next_kept number w holds
      ]

  open_kept : (number : ℕ) (w : World) → J w → (b : Bool) → is_open w.conns number ≡ b → J (if b then w else settle (open_conn number w))
  open_kept number w holds true is = holds
  open_kept number w holds false is = keeps.opens number w is holds

  hear_kept : (number : ℕ) (piece : List ℕ) (w : World) → J w → J (hear number piece w)
  hear_kept number piece w holds =
      let fed : World = feed number piece w in
      frames_kept (length (unread number fed)) number fed (keeps.feeds number piece w holds)

  work_kept : (h : Happening) (w : World) → J w → J (work h w)
  work_kept (happenings.Opened number) w holds = open_kept number w holds (is_open w.conns number) refl
  work_kept (happenings.Heard number piece) w holds =
      elim (is_open w.conns number) as (λ b. J (if b then hear number piece w else w)) [ true ↦ hear_kept number piece w holds | false ↦ holds ]
  work_kept (happenings.Closed number cause) w holds =
      elim (is_open w.conns number) as (λ b. J (if b then settle (ended (closing_for cause) number w) else w)) [
        | true ↦ keeps.ends (closing_for cause) number w holds
        | false ↦ holds
      ]
  work_kept (happenings.Moment moment) w holds = keeps.passes moment w holds
  work_kept (happenings.Reload text) w holds = keeps.reloads text w holds

  pub behind_kept : (w : World) (story : List Happening) → J w → J (behind w story)
  behind_kept w [] holds = holds
  behind_kept w (h ∷ hs) holds = behind_kept (turn h w) hs (work_kept h (record w { said = [] }) (keeps.unsaid w holds))
