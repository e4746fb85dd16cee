-- Why a Gauge closes connections: which it closes, read off what happens and what it knows.
use Rattle.std.specs.Prelude.{ℕ, zero, suc, if◌then◌else◌, List, [], ◌∷◌, ◌++◌, length, map, Option, Some, None}
use Rattle.std.specs.List.{flat_map}
use Rattle.std.specs.Option.{option_map_or}
use Rattle.net_base.specs.declared.numbers.DpId.{DpId}
use Rattle.fg_outside.specs.declared.hub.Happening.{Happening}
use Rattle.fg_outside.specs.declared.hub.Happening.TheVariants as happenings
use Rattle.of13_codec.specs.declared.message.Message.{Message}
use Rattle.of13_codec.specs.declared.message.Message.TheVariants.{Hello, Error, FeaturesReply}
use Rattle.switch_session.specs.declared.closing.Closing.{Closing}
use Rattle.switch_session.specs.declared.closing.Closing.TheVariants.{BadFrame, Replaced, Silent, SwitchError, WrongVersion}
use Rattle.switch_session.specs.declared.state.Stage.{Stage}
use Rattle.switch_session.specs.declared.state.Stage.TheVariants.{Greeting, Features, Shut}
use Rattle.switch_session.specs.Stages.{speaks}
use Rattle.ctl_world.specs.declared.conns.Conn.{Conn}
use Rattle.ctl_world.specs.declared.frames.Front.{Front}
use Rattle.ctl_world.specs.declared.frames.Front.TheVariants.{Part, Frame, Bad}
use Rattle.ctl_world.specs.declared.said.Said.{Said}
use Rattle.ctl_world.specs.declared.said.Said.TheVariants as said
use Rattle.ctl_world.specs.Connections.{conn_of, conn_with, is_open}
use Rattle.ctl_world.specs.Frames.{front}
use Rattle.ctl_world.specs.World.{World}
use Rattle.ctl_life.specs.Life.{feed, has_frame, read, unread}
use Rattle.ctl_life.specs.Silence.{falls_silent, look, show}
use Rattle.gauge_poll.specs.Monitoring.{Monitor, anew, hear_next, heard, unfit, with_world}
use Rattle.gauge_poll.specs.Telling.{reads}

-- a connection that is closed
pub record Closed : Type 0 where
  pub conn : ℕ
  pub cause : Closing

abbrev pub one : (conn : ℕ) → Closing → List Closed
one conn cause = record { conn = conn; cause = cause } ∷ []

abbrev pub closed_in : Said → List Closed
closed_in (said.Closing conn cause) = one conn cause
closed_in it = []

-- what is closed among what is said, in order
abbrev pub closings : List Said → List Closed
closings them = flat_map closed_in them

-- ---- a message

-- a switch that says what it is: where it isn't configured, or this is an auxiliary connection, its own connection; else that which
-- its datapath has, as its later one takes its place
abbrev pub for_features : (number : ℕ) → DpId → Option Closing → List Conn → List Closed
for_features number dp (Some cause) conns = one number cause
for_features number dp None conns = option_map_or (λ c. one c.number Replaced) (conn_of conns dp) []

-- a HELLO that doesn't speak OpenFlow 1.3, where it is awaited (7.5.1)
abbrev pub for_awaited : World → Stage → Message → (number : ℕ) → List Closed
for_awaited w Greeting (Hello version bitmap) number = if speaks version bitmap then [] else one number WrongVersion
for_awaited w Features (FeaturesReply reply) number = for_features number reply.dp (unfit w.conf reply.dp reply.auxiliary) w.conns
for_awaited w stage m number = []

-- an ERROR, whenever it comes (7.4.4)
abbrev pub for_heard : World → Stage → Message → (number : ℕ) → List Closed
for_heard w stage (Error kind code payload) number = one number (SwitchError kind code)
for_heard w stage m number = for_awaited w stage m number

abbrev pub for_message : World → Stage → Message → (number : ℕ) → List Closed
for_message w Shut m number = []
for_message w stage m number = for_heard w stage m number

-- ---- a frame

-- one that spells no message, or one of which a flow entry is wrong; or what its message leads to, once it was heard
abbrev pub for_frame : Option (Message × ℕ) → (number : ℕ) → Monitor → List Closed
for_frame (Some told) number k =
    option_map_or (λ (c : Conn). for_message (heard told.0 told.1 number k.said).world c.session.state.stage told.0 number) (conn_with k.said.world.conns number) []
for_frame None number k = one number BadFrame

-- a header that tells less than its own length (7.1)
abbrev pub for_front : Front → (number : ℕ) → Monitor → List Closed
for_front Part number k = []
for_front (Frame frame) number k = for_frame (reads frame) number k
for_front Bad number k = one number BadFrame

-- what stands at the front, which is taken
abbrev pub for_next : (number : ℕ) → Monitor → List Closed
for_next number k = for_front (front (unread number k.said.world)) number (with_world (read number) k)

-- each frame, so many at most
abbrev pub for_frames : (most : ℕ) → (number : ℕ) → Monitor → List Closed
for_frames zero number k = []
for_frames (suc most) number k = for_next number k ++ (if has_frame number k.said.world then for_frames most number (hear_next number k) else [])

abbrev pub for_bytes : (number : ℕ) → Monitor → List Closed
for_bytes number k = for_frames (length (unread number k.said.world)) number k

-- ---- a moment

-- each connection on which no byte came for 60 seconds, when it is looked at
abbrev pub for_silence : List ℕ → World → List Closed
for_silence [] w = []
for_silence (number ∷ numbers) w = (if falls_silent w number then one number Silent else []) ++ for_silence numbers (look number w)

-- ---- a turn

-- bytes of a connection that is open, and a moment; nothing else closes one
abbrev pub causes : Happening → Monitor → List Closed
causes (happenings.Opened number) m = []
causes (happenings.Heard number piece) m = if is_open m.said.world.conns number then for_bytes number (with_world (feed number piece) (anew m)) else []
causes (happenings.Closed number cause) m = []
causes (happenings.Moment moment) m = for_silence (map (λ c. c.number) m.said.world.conns) (show moment (anew m).said.world)
causes (happenings.Reload text) m = []
