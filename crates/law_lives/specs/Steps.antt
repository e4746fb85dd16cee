-- A story step by step: the frames that are heard, and the turns.
use Rattle.std.specs.Prelude.{ℕ, zero, suc, if◌then◌else◌, List, [], ◌∷◌, ◌++◌, length, Option, None}
use Rattle.fg_outside.specs.declared.hub.Happening.{Happening}
use Rattle.fg_outside.specs.declared.hub.Happening.TheVariants as happenings
use Rattle.of13_codec.specs.declared.message.Message.{Message}
use Rattle.ctl_world.specs.declared.frames.Front.{Front}
use Rattle.ctl_world.specs.declared.frames.Front.TheVariants.{Part, Frame, Bad}
use Rattle.ctl_world.specs.Connections.{is_open}
use Rattle.ctl_world.specs.Frames.{front}
use Rattle.ctl_world.specs.World.{World}
use Rattle.ctl_core.specs.Settlings.{settle}
use Rattle.ctl_life.specs.Life.{feed, has_frame, read, says, unread}
use Rattle.ctl_core.specs.Hearing.{hear_frame, hear_next}
use Rattle.ctl_core.specs.Turns.{turn}

-- ---- frames

-- what a frame says on a connection, if it spells a message, and what is known before it
pub record Heard : Type 0 where
  pub on : ℕ
  pub says : Option (Message × ℕ)
  pub before : World

-- what is known once what follows from it is done and said
abbrev pub behind_heard : Heard → World
behind_heard f = settle (hear_frame f.says f.on f.before)

abbrev pub at_front : Front → (number : ℕ) → World → List Heard
at_front Part number w = []
at_front (Frame frame) number w = record { on = number; says = says frame; before = w } ∷ []
at_front Bad number w = record { on = number; says = None; before = w } ∷ []

abbrev pub at_next : (number : ℕ) → World → List Heard
at_next number w = at_front (front (unread number w)) number (read number w)

abbrev pub at_frames : (most : ℕ) → (number : ℕ) → World → List Heard
at_frames zero number w = []
at_frames (suc most) number w = at_next number w ++ (if has_frame number w then at_frames most number (hear_next number w) else [])

abbrev pub at_piece : (number : ℕ) → World → List Heard
at_piece number w = at_frames (length (unread number w)) number w

abbrev pub heard_in : Happening → World → List Heard
heard_in (happenings.Heard number piece) w = if is_open w.conns number then at_piece number (feed number piece w) else []
heard_in other w = []

-- those of a story, in order
abbrev pub frames : World → List Happening → List Heard
frames w [] = []
frames w (h ∷ hs) = heard_in h (record w { said = [] }) ++ frames (turn h w) hs

-- ---- turns

-- what happens, and what is known before it
pub record Turn : Type 0 where
  pub what : Happening
  pub before : World

abbrev pub behind_turn : Turn → World
behind_turn t = turn t.what t.before

abbrev pub turns : World → List Happening → List Turn
turns w [] = []
turns w (h ∷ hs) = record { what = h; before = w } ∷ turns (turn h w) hs
