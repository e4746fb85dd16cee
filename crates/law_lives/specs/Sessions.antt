-- What is right of the log of a story.
use Rattle.std.specs.Prelude.{◌≡◌, ◌<◌, ◌+◌, ◌-◌, ℕ, nat_le, true, false, if◌then◌else◌, List, [], ◌∷◌, ◌++◌, map, slice_index, Option, Some, None}
use Rattle.std.specs.List.{AllByRecursion, concat}
use Rattle.net_base.specs.declared.numbers.DpId.{DpId}
use Rattle.fg_outside.specs.declared.hub.Happening.{Happening}
use Rattle.fg_outside.specs.declared.hub.Happening.TheVariants as happenings
use Rattle.conf_types.specs.Configuration.{Configuration}
use Rattle.of13_codec.specs.declared.message.Message.{Message}
use Rattle.of13_codec.specs.declared.message.Message.TheVariants as messages
use Rattle.of13_codec.specs.Spelling.{Spells}
use Rattle.flow_messages.specs.Messages.{delete_all}
use Rattle.switch_session.specs.declared.state.Stage.{Stage}
use Rattle.switch_session.specs.declared.state.Stage.TheVariants.{Greeting, Features, Ports, Wiping, Running, Shut}
use Rattle.switch_session.specs.Frames.{IsBegun, IsFrame}
use Rattle.ctl_world.specs.declared.conns.Conn.{Conn}
use Rattle.ctl_world.specs.declared.said.Said.{Said}
use Rattle.ctl_world.specs.declared.said.Said.TheVariants as said
use Rattle.ctl_world.specs.TablesSaid.{is_of_tables}
use Rattle.ctl_world.specs.World.{first, has_ports}
use Rattle.ctl_core.specs.Story.{said_by_turn}
use Rattle.law_lives.specs.Lives.{Life, Lives, Note, Turn, begun, behind_turn, came, noted, went}

-- ---- whose log it is

abbrev pub said_of : List Note → List Said
said_of [] = []
said_of (came number frame said ∷ xs) = said_of xs
said_of (went said ∷ xs) = said ∷ said_of xs

-- it has what happened, and what was said of it, turn by turn
pub record Tells (conf : Configuration) (story : List Happening) (log : List Turn) : Type 0 where
  pub happened : map (λ (t : Turn). t.what) log ≡ story
  pub said : map (λ (t : Turn). said_of t.notes) log ≡ said_by_turn (first conf) story

-- ---- frames

-- a frame spells this message with its transaction id, or none (OpenFlow 1.3, 7)
abbrev pub IsSpelled : (frame : List ℕ) → Option (Message × ℕ) → Type 0
IsSpelled frame (Some said) = Spells said.0 said.1 frame
IsSpelled frame None = (m : Message) (xid : ℕ) → Spells m xid frame → ⊥

-- frames come where bytes come, and on their connection
abbrev pub IsHeardOn : Happening → (number : ℕ) → Type 0
IsHeardOn (happenings.Opened n) number = ⊥
IsHeardOn (happenings.Heard n piece) number = number ≡ n
IsHeardOn (happenings.Closed n cause) number = ⊥
IsHeardOn (happenings.Moment moment) number = ⊥
IsHeardOn (happenings.Reload text) number = ⊥

abbrev pub IsIn : Happening → Note → Type 0
IsIn h (came number frame said) = IsHeardOn h number
IsIn h (went said) = Unit {0}

-- ---- one connection of a datapath

-- it is open, and its FEATURES_REPLY named this datapath
abbrev pub Has : Life → DpId → Type 0
Has l dp = (l.is_open ≡ true) × (l.dp ≡ Some dp)

abbrev pub AreApart : Lives → Type 0
AreApart lives = (a b : ℕ) (dp : DpId) → Has (lives a) dp → Has (lives b) dp → a ≡ b

-- ---- where each note stands

-- Nothing is said of tables while a barrier is outstanding (6.2, 7.3.8); and where the ports are asked for, every other connection
-- of the datapath was closed.
abbrev pub MaySay : (number : ℕ) → Message → Lives → Type 0
MaySay number (messages.FlowMod m) lives = (lives number).barrier ≡ None
MaySay number messages.BarrierRequest lives = (lives number).barrier ≡ None
MaySay number messages.PortDescRequest lives = (other : ℕ) (dp : DpId) → Has (lives number) dp → Has (lives other) dp → other ≡ number
MaySay number m lives = Unit {0}

-- a frame is heard where its connection is open, as what it spells, if it is bytes; and no two connections have one datapath then
abbrev pub MayStand : Note → Lives → Type 0
MayStand (came number frame said) lives =
    ((lives number).is_open ≡ true) × (((i : ℕ) → slice_index frame i < 256) → IsSpelled frame said) × AreApart lives
MayStand (went (said.Message number m xid)) lives = MaySay number m lives
MayStand (went (said.Closing number cause)) lives = Unit {0}
MayStand (went (said.Line text)) lives = Unit {0}

abbrev pub EachMayStand : List Note → Lives → Type 0
EachMayStand [] lives = Unit {0}
EachMayStand (x ∷ xs) lives = MayStand x lives × EachMayStand xs (noted x lives)

-- ---- behind a turn

-- A HELLO of version 4, whose bitmap has that version alone (7.5.1); FEATURES_REQUEST (7.3.1); the request for the ports (7.3.5.7);
-- and the wipe of all tables with its barrier (7.3.4.1, 7.3.8): each once, in this order, as far as the stage.
abbrev pub setup_in : Stage → List Message
setup_in Greeting = messages.Hello 4 (Some 16) ∷ []
setup_in Features = messages.Hello 4 (Some 16) ∷ messages.FeaturesRequest ∷ []
setup_in Ports = messages.Hello 4 (Some 16) ∷ messages.FeaturesRequest ∷ messages.PortDescRequest ∷ []
setup_in stage = messages.Hello 4 (Some 16) ∷ messages.FeaturesRequest ∷ messages.PortDescRequest ∷ delete_all ∷ messages.BarrierRequest ∷ []

-- behind the setup nothing but messages of tables
abbrev pub IsSetUp : Stage → List Message → Type 0
IsSetUp Greeting steps = steps ≡ setup_in Greeting
IsSetUp Features steps = steps ≡ setup_in Features
IsSetUp Ports steps = steps ≡ setup_in Ports
IsSetUp Wiping steps = steps ≡ setup_in Wiping
IsSetUp Running steps = (more : List Message) × (steps ≡ setup_in Wiping ++ more) × AllByRecursion (λ m. is_of_tables m ≡ true) more
IsSetUp Shut steps = ⊥

pub record IsRightLife (l : Life) : Type 0 where
  -- the frames that were heard are those of the bytes, in order: all of them, where it is open
  pub rest : List ℕ
  pub bytes : l.bytes ≡ concat l.frames ++ rest
  pub frames : AllByRecursion IsFrame l.frames
  pub left : l.is_open ≡ true → IsBegun rest
  -- on a connection that is open a byte came within the last 60 seconds, or it opened within them
  pub heard : l.is_open ≡ true → l.moment < l.last + 60000
  -- an ECHO_REQUEST was said once 20 seconds had passed since, and one alone
  pub probed : l.is_open ≡ true → l.probes ≡ (if nat_le 20000 (l.moment - l.last) then 1 else 0)
  -- each ECHO_REQUEST was answered with its data and transaction id, in order (7.5.2, 7.5.3)
  pub echoes : l.answered ≡ l.asked
  pub setup : l.is_open ≡ true → IsSetUp l.state.stage l.steps
  -- what the session awaits once the ports are told is the barrier that is outstanding
  pub barrier : l.is_open ≡ true → has_ports l.state.stage ≡ true → l.barrier ≡ l.state.awaited

pub record IsRightTurn (t : Turn) (lives : Lives) : Type 0 where
  pub heard : AllByRecursion (IsIn t.what) t.notes
  pub each : EachMayStand t.notes (begun t.what lives)
  pub apart : AreApart (behind_turn t lives)
  pub each_life : (number : ℕ) → IsRightLife (behind_turn t lives number)

abbrev pub AreRightTurns : List Turn → Lives → Type 0
AreRightTurns [] lives = Unit {0}
AreRightTurns (t ∷ ts) lives = IsRightTurn t lives × AreRightTurns ts (behind_turn t lives)

-- ---- what the controller has of a connection

-- its session is that of the life, and so is the datapath that it took; what isn't open isn't there
abbrev pub IsOf : Life → Option Conn → Type 0
IsOf l None = l.is_open ≡ false
IsOf l (Some c) = (l.is_open ≡ true) × (c.session.state ≡ l.state) × (c.dp ≡ l.dp)
