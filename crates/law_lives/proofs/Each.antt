-- What holds between the steps of a story, and so what is seen of each frame that is heard and of each turn.
use Rattle.std.proofs.Common.{◌≡◌, ℕ, zero, suc, Bool, true, false, None, List, [], ◌∷◌, ◌++◌, length, if◌then◌else◌}
use Rattle.std.specs.List.{AllByRecursion}
use Rattle.fg_outside.specs.declared.hub.Happening.{Happening}
use Rattle.fg_outside.specs.declared.hub.Happening.TheVariants as happenings
use Rattle.of_match.proofs.AfterOrder.{all_append}
use Rattle.ctl_world.specs.declared.frames.Front.{Front}
use Rattle.ctl_world.specs.declared.frames.Front.TheVariants.{Part, Frame, Bad}
use Rattle.ctl_world.specs.Connections.{is_open}
use Rattle.ctl_world.specs.Frames.{front}
use Rattle.ctl_world.specs.World.{World}
use Rattle.ctl_life.specs.Life.{feed, has_frame, read, says, unread}
use Rattle.ctl_core.specs.Hearing.{hear_front, hear_next}
use Rattle.ctl_core.specs.Turns.{turn}
use Rattle.law_stories.proofs.StoryTurns.{Keeps, behind_kept}
use Rattle.law_lives.specs.Steps.{Heard, Turn, at_frames, at_front, at_next, at_piece, behind_heard, behind_turn, frames, heard_in, turns}

module _ (J : World → Type 0) (keeps : Keeps J) (G : Heard → Type 0) (sees : (f : Heard) → J f.before → J (behind_heard f) → G f) where
  front_seen : (f : Front) (number : ℕ) (w : World) → J w → AllByRecursion G (at_front f number w)
  front_seen Part number w holds = tt
  front_seen (Frame frame) number w holds = (sees (record { on = number; says = says frame; before = w }) holds (keeps.hears (says frame) number w holds), tt)
  front_seen Bad number w holds = (sees (record { on = number; says = None; before = w }) holds (keeps.hears None number w holds), tt)

  front_left : (f : Front) (number : ℕ) (w : World) → J w → J (hear_front f number w)
  front_left Part number w holds = holds
  front_left (Frame frame) number w holds = keeps.hears (says frame) number w holds
  front_left Bad number w holds = keeps.hears None number w holds

  frames_seen : (most number : ℕ) (w : World) → J w → AllByRecursion G (at_frames most number w)
  frames_seen zero number w holds = tt
  frames_seen (suc most) number w holds =
      let f : Front = front (unread number w) in
      let taken : J (read number w) = keeps.reads number w holds in
      all_append G (at_next number w) (if has_frame number w then at_frames most number (hear_next number w) else []) (front_seen f number (read number w) taken)
      (elim (has_frame number w) as (λ b. AllByRecursion G (if b then at_frames most number (hear_next number w) else [])) [
        | true ↦ frames_seen most number (hear_next number w) (front_left f number (read number w) taken)
        | false ↦ tt
      ])

  heard_seen : (h : Happening) (w : World) → J w → AllByRecursion G (heard_in h w)
  heard_seen (happenings.Heard number piece) w holds =
      let fed : World = feed number piece w in
      elim (is_open w.conns number) as (λ b. AllByRecursion G (if b then at_piece number fed else [])) [
        | true ↦ frames_seen (length (unread number fed)) number fed (keeps.feeds number piece w holds)
        | false ↦ tt
      ]
  heard_seen h w holds = tt

  pub each_frame : (w : World) (story : List Happening) → J w → AllByRecursion G (frames w story)
  each_frame w [] holds = tt
  each_frame w (h ∷ hs) holds =
      all_append G (heard_in h (record w { said = [] })) (frames (turn h w) hs) (heard_seen h (record w { said = [] }) (keeps.unsaid w holds))
      (each_frame (turn h w) hs (behind_kept J keeps w (h ∷ []) holds))

module _ (J : World → Type 0) (keeps : Keeps J) (G : Turn → Type 0) (sees : (t : Turn) → J t.before → J (behind_turn t) → G t) where
  pub each_turn : (w : World) (story : List Happening) → J w → AllByRecursion G (turns w story)
  each_turn w [] holds = tt
  each_turn w (h ∷ hs) holds =
      let next : J (turn h w) = behind_kept J keeps w (h ∷ []) holds in
      (sees (record { what = h; before = w }) holds next, each_turn (turn h w) hs next)
