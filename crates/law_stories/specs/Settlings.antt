-- The settlings of a story: behind each frame that is heard, and at the end of each other turn that does something, batches
-- are said.
use Rattle.std.specs.Prelude.{ℕ, zero, suc, if◌then◌else◌, List, [], ◌∷◌, ◌++◌, length}
use Rattle.std.specs.List.{flat_map}
use Rattle.fg_outside.specs.declared.hub.Happening.{Happening}
use Rattle.fg_outside.specs.declared.hub.Happening.TheVariants as happenings
use Rattle.switch_session.specs.declared.closing.Closing.TheVariants.{BadFrame}
use Rattle.ctl_world.specs.declared.frames.Front.{Front}
use Rattle.ctl_world.specs.declared.frames.Front.TheVariants.{Part, Frame, Bad}
use Rattle.ctl_world.specs.declared.said.Said.{Said}
use Rattle.ctl_world.specs.Connections.{is_open}
use Rattle.ctl_world.specs.Ends.{close, ended}
use Rattle.ctl_world.specs.Frames.{front}
use Rattle.ctl_world.specs.World.{World}
use Rattle.ctl_core.specs.Settlings.{settle}
use Rattle.ctl_life.specs.Life.{has_frame, read, says, unread, closing_for, feed, open_conn}
use Rattle.ctl_core.specs.Hearing.{hear_frame, hear_next}
use Rattle.ctl_core.specs.Reloading.{accepted, reload}
use Rattle.ctl_core.specs.Story.{said_by_turn}
use Rattle.ctl_core.specs.Turns.{pass, turn}

-- all that is said in a story, in order
abbrev pub said_in : World → List Happening → List Said
said_in w hs = flat_map (λ (told : List Said). told) (said_by_turn w hs)

-- one of them: what was said in the turns before, and what is known just before it
pub record Settling : Type 0 where
  pub past : List Said
  pub before : World

abbrev pub known_behind : Settling → World
known_behind s = settle s.before

-- all that was said before it, and up to its end
abbrev pub said_before : Settling → List Said
said_before s = s.past ++ s.before.said

abbrev pub said_behind : Settling → List Said
said_behind s = s.past ++ (settle s.before).said

-- ---- of one turn

abbrev pub at_front : (past : List Said) → Front → (number : ℕ) → World → List Settling
at_front past Part number w = []
at_front past (Frame frame) number w = record { past = past; before = hear_frame (says frame) number w } ∷ []
at_front past Bad number w = record { past = past; before = close BadFrame number w } ∷ []

abbrev pub at_next : (past : List Said) → (number : ℕ) → World → List Settling
at_next past number w = at_front past (front (unread number w)) number (read number w)

abbrev pub at_frames : (past : List Said) → (most : ℕ) → (number : ℕ) → World → List Settling
at_frames past zero number w = []
at_frames past (suc most) number w =
    at_next past number w ++ (if has_frame number w then at_frames past most number (hear_next number w) else [])

abbrev pub at_piece : (past : List Said) → (number : ℕ) → World → List Settling
at_piece past number w = at_frames past (length (unread number w)) number w

abbrev pub at_work : (past : List Said) → Happening → World → List Settling
at_work past (happenings.Opened number) w = if is_open w.conns number then [] else record { past = past; before = open_conn number w } ∷ []
at_work past (happenings.Heard number piece) w = if is_open w.conns number then at_piece past number (feed number piece w) else []
at_work past (happenings.Closed number cause) w =
    if is_open w.conns number then record { past = past; before = ended (closing_for cause) number w } ∷ [] else []
at_work past (happenings.Moment moment) w = record { past = past; before = pass moment w } ∷ []
at_work past (happenings.Reload text) w = record { past = past; before = reload (accepted text) w } ∷ []

-- ---- of a story, where this was said before it

abbrev pub settlings_behind : (past : List Said) → World → List Happening → List Settling
settlings_behind past w [] = []
settlings_behind past w (h ∷ hs) = at_work past h (record w { said = [] }) ++ settlings_behind (past ++ (turn h w).said) (turn h w) hs

abbrev pub settlings : World → List Happening → List Settling
settlings w hs = settlings_behind [] w hs
