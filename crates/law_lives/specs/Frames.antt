-- What is said in a turn, frame by frame.
use Rattle.std.specs.Prelude.{◌≡◌, ℕ, Bool, true, false, is_some, List, [], ◌∷◌, ◌++◌, Option, Some, None}
use Rattle.std.specs.List.{AllByRecursion, list_any}
use Rattle.std.specs.Option.{option_map_or}
use Rattle.fg_outside.specs.declared.hub.Happening.{Happening}
use Rattle.fg_outside.specs.declared.hub.Happening.TheVariants as happenings
use Rattle.conf_types.specs.Configuration.{Configuration}
use Rattle.of13_codec.specs.declared.message.Message.{Message}
use Rattle.switch_session.specs.declared.state.Step.{Step}
use Rattle.switch_session.specs.declared.state.Step.TheVariants as steps
use Rattle.switch_session.specs.Stages.{leads}
use Rattle.ctl_world.specs.declared.conns.Conn.{Conn}
use Rattle.ctl_world.specs.declared.said.Said.{Said}
use Rattle.ctl_world.specs.Connections.{conn_with}
use Rattle.ctl_world.specs.World.{World}
use Rattle.ctl_core.specs.Hearing.{unfit}
use Rattle.law_lives.specs.Causes.{HasHeardCause, closes}
use Rattle.law_lives.specs.Steps.{Heard, Turn, behind_heard, behind_turn, heard_in}

-- ---- a frame that is refused

-- its message is one that the stage of its connection doesn't take, or tells of a switch that isn't to be served
abbrev pub is_refusing : Configuration → Step → Bool
is_refusing conf (steps.Close cause) = true
is_refusing conf (steps.Features id n_tables auxiliary) = is_some (unfit conf id n_tables auxiliary)
is_refusing conf step = false

abbrev pub is_refused_on : Message → (xid : ℕ) → World → Conn → Bool
is_refused_on m xid w c = is_refusing w.conf (leads c.session.state m xid).1

-- or it spells no message
abbrev pub is_refused : Option (Message × ℕ) → (on : ℕ) → World → Bool
is_refused (Some heard) on w = option_map_or (is_refused_on heard.0 heard.1 w) (conn_with w.conns on) false
is_refused None on w = true

-- ---- what is said of frames

-- This is said of a frame, behind what was said before it, and up to the next: each closing in it has its cause in this frame. A
-- frame that is refused closes the connection on which it came.
pub record IsSaidOf (f : Heard) (own : List Said) : Type 0 where
  pub all : (behind_heard f).said ≡ f.before.said ++ own
  pub causes : AllByRecursion (HasHeardCause f.before f.says f.on) own
  pub refused : is_refused f.says f.on f.before ≡ true → list_any (closes f.on) own ≡ true

-- What is said of frames, one behind the other. Where the connection is closed on which they came, no frame is heard behind that.
abbrev pub SaysByFrames : List Heard → List Said → Type 0
SaysByFrames [] said = said ≡ []
SaysByFrames (f ∷ more) said =
    (own rest : List Said) × (said ≡ own ++ rest) × IsSaidOf f own × (list_any (closes f.on) own ≡ true → more ≡ []) × SaysByFrames more rest

-- in a turn in which bytes are heard, of the frames in them
abbrev pub SpeaksByFrames : Happening → (before : World) → List Said → Type 0
SpeaksByFrames (happenings.Heard number piece) before said = SaysByFrames (heard_in (happenings.Heard number piece) (record before { said = [] })) said
SpeaksByFrames other before said = Unit {0}

abbrev pub SpeaksByItsFrames : Turn → Type 0
SpeaksByItsFrames t = SpeaksByFrames t.what t.before (behind_turn t).said
