-- The life of each connection, read off a log of what came and what was said, in the order of time. Nothing in it is asked of the
-- controller: a life is what these lists come to.
use Rattle.std.specs.Prelude.{ℕ, ◌+◌, ◌==◌, max, Bool, true, false, if◌then◌else◌, List, [], ◌∷◌, ◌++◌, Option, Some, None}
use Rattle.net_base.specs.declared.numbers.DpId.{DpId}
use Rattle.fg_outside.specs.declared.hub.Happening.{Happening}
use Rattle.fg_outside.specs.declared.hub.Happening.TheVariants as happenings
use Rattle.of13_codec.specs.declared.message.Message.{Message}
use Rattle.of13_codec.specs.declared.message.Message.TheVariants as messages
use Rattle.switch_session.specs.declared.state.Stage.{Stage}
use Rattle.switch_session.specs.declared.state.Stage.TheVariants.{Greeting, Features}
use Rattle.switch_session.specs.Stages.{State, is_id, leads}
use Rattle.ctl_world.specs.declared.said.Said.{Said}
use Rattle.ctl_world.specs.declared.said.Said.TheVariants as said

-- ---- a log

-- a frame came on a connection, and spells this message with its transaction id, or none; or this was said
pub data Note : Type 0 where
  came : ℕ → List ℕ → Option (Message × ℕ) → Note
  went : Said → Note

-- what happened, and what of it was heard and said, one behind the other
pub record Turn : Type 0 where
  pub what : Happening
  pub notes : List Note

-- ---- a life

pub record Life : Type 0 where
  pub is_open : Bool
  -- the bytes that came since it opened, and the frames in them that were heard
  pub bytes : List ℕ
  pub frames : List (List ℕ)
  -- the moment that the clock shows, and the one at which the last byte came, or else it opened
  pub moment : ℕ
  pub last : ℕ
  -- how many ECHO_REQUESTs were said since then
  pub probes : ℕ
  -- the session: its stage, the transaction id of the barrier or port request that is outstanding, the ports told
  pub state : State
  -- the datapath that the FEATURES_REPLY named which its stage awaited
  pub dp : Option DpId
  -- the transaction id of the BARRIER_REQUEST that was said and not answered
  pub barrier : Option ℕ
  -- the ECHO_REQUESTs that were heard, and the ECHO_REPLYs that were said: their data and transaction ids
  pub asked : List (List ℕ × ℕ)
  pub answered : List (List ℕ × ℕ)
  -- whatever else was said but PACKET_OUT, ECHO_REQUEST and ERROR
  pub steps : List Message

abbrev pub closed : Life
closed = record {
  is_open = false;
  bytes = [];
  frames = [];
  moment = 0;
  last = 0;
  probes = 0;
  state = record { stage = Greeting; awaited = None; ports = [] };
  dp = None;
  barrier = None;
  asked = [];
  answered = [];
  steps = [];
}

abbrev pub opened : (moment : ℕ) → Life
opened moment = record closed { is_open = true; moment = moment; last = moment }

abbrev pub shut : Life → Life
shut l = record l { is_open = false }

-- ---- what happens: an Opened counts of a connection that isn't open, bytes of one that is

abbrev pub opens : Life → Life
opens l = if l.is_open then l else opened l.moment

-- no bytes are no heard byte
abbrev pub fed : List ℕ → Life → Life
fed [] l = l
fed (byte ∷ piece) l = record l { bytes = l.bytes ++ byte ∷ piece; last = l.moment; probes = 0 }

abbrev pub comes : List ℕ → Life → Life
comes piece l = if l.is_open then fed piece l else l

abbrev pub begins : (number : ℕ) → Happening → Life → Life
begins number (happenings.Opened n) l = if n == number then opens l else l
begins number (happenings.Heard n piece) l = if n == number then comes piece l else l
begins number (happenings.Closed n cause) l = if n == number then shut l else l
begins number (happenings.Moment moment) l = record l { moment = max l.moment moment }
begins number (happenings.Reload text) l = l

-- ---- a message is heard

abbrev pub dp_after : Stage → Message → Option DpId → Option DpId
dp_after Features (messages.FeaturesReply reply) dp = Some reply.dp
dp_after stage m dp = dp

-- a barrier is outstanding until a BARRIER_REPLY with its transaction id is heard (OpenFlow 1.3, 7.3.8)
abbrev pub barrier_after : Message → (xid : ℕ) → Option ℕ → Option ℕ
barrier_after messages.BarrierReply xid barrier = if is_id barrier xid then None else barrier
barrier_after m xid barrier = barrier

abbrev pub asked_after : Message → (xid : ℕ) → List (List ℕ × ℕ) → List (List ℕ × ℕ)
asked_after (messages.EchoRequest payload) xid asked = asked ++ (payload, xid) ∷ []
asked_after m xid asked = asked

abbrev pub meets : Message → (xid : ℕ) → Life → Life
meets m xid l = record l {
  state = (leads l.state m xid).0;
  dp = dp_after l.state.stage m l.dp;
  barrier = barrier_after m xid l.barrier;
  asked = asked_after m xid l.asked;
}

abbrev pub takes : (frame : List ℕ) → Option (Message × ℕ) → Life → Life
takes frame (Some said) l = record (meets said.0 said.1 l) { frames = l.frames ++ frame ∷ [] }
takes frame None l = record l { frames = l.frames ++ frame ∷ [] }

-- ---- a message is said

-- the reply to a barrier or to the request for the ports is awaited then
abbrev pub awaited_said : Message → (xid : ℕ) → Option ℕ → Option ℕ
awaited_said messages.BarrierRequest xid awaited = Some xid
awaited_said messages.PortDescRequest xid awaited = Some xid
awaited_said m xid awaited = awaited

abbrev pub barrier_said : Message → (xid : ℕ) → Option ℕ → Option ℕ
barrier_said messages.BarrierRequest xid barrier = Some xid
barrier_said m xid barrier = barrier

abbrev pub answered_said : Message → (xid : ℕ) → List (List ℕ × ℕ) → List (List ℕ × ℕ)
answered_said (messages.EchoReply payload) xid answered = answered ++ (payload, xid) ∷ []
answered_said m xid answered = answered

abbrev pub probes_said : Message → ℕ → ℕ
probes_said (messages.EchoRequest payload) probes = probes + 1
probes_said m probes = probes

abbrev pub steps_said : Message → List Message → List Message
steps_said (messages.PacketOut m) steps = steps
steps_said (messages.EchoRequest payload) steps = steps
steps_said (messages.EchoReply payload) steps = steps
steps_said (messages.Error kind code payload) steps = steps
steps_said m steps = steps ++ m ∷ []

abbrev pub speaks : Message → (xid : ℕ) → Life → Life
speaks m xid l = record l {
  state = record l.state { awaited = awaited_said m xid l.state.awaited };
  barrier = barrier_said m xid l.barrier;
  answered = answered_said m xid l.answered;
  probes = probes_said m l.probes;
  steps = steps_said m l.steps;
}

-- ---- all of them

abbrev pub notes_one : (number : ℕ) → Note → Life → Life
notes_one number (came n frame said) l = if n == number then takes frame said l else l
notes_one number (went (said.Message n m xid)) l = if n == number then speaks m xid l else l
notes_one number (went (said.Closing n cause)) l = if n == number then shut l else l
notes_one number (went (said.Line text)) l = l

-- the life of each number
abbrev pub Lives : Type 0
Lives = ℕ → Life

abbrev pub noted : Note → Lives → Lives
noted x lives number = notes_one number x (lives number)

abbrev pub noted_all : List Note → Lives → Lives
noted_all [] lives = lives
noted_all (x ∷ xs) lives = noted_all xs (noted x lives)

abbrev pub begun : Happening → Lives → Lives
begun h lives number = begins number h (lives number)

abbrev pub behind_turn : Turn → Lives → Lives
behind_turn t lives = noted_all t.notes (begun t.what lives)

abbrev pub behind_turns : List Turn → Lives → Lives
behind_turns [] lives = lives
behind_turns (t ∷ ts) lives = behind_turns ts (behind_turn t lives)

-- before anything happened
abbrev pub none_lives : Lives
none_lives number = closed
