-- A session over all that happened, and what can be said of it by a look at what happened alone.
use Rattle.std.specs.Prelude.{◌≡◌, ℕ, ◌*◌, ◌-◌, ◌<◌, ◌≤◌, min, Bool, true, false, List, [], ◌∷◌, ◌++◌, Option, Some, None, ◌⊎◌}
use Rattle.std.specs.List.{list_all}
use Rattle.net_base.specs.declared.numbers.Moment.{Moment}
use Rattle.bgp_messages.specs.declared.kind.Kind.{Kind}
use Rattle.bgp_messages.specs.declared.kind.Kind.TheVariants as kinds
use Rattle.bgp_messages.specs.declared.message.Message.TheVariants as messages
use Rattle.bgp_messages.specs.declared.said.Said.{Said}
use Rattle.bgp_messages.specs.declared.said.Said.TheVariants as words
use Rattle.bgp_messages.specs.Messages.{kind_of_message}
use Rattle.bgp_session.specs.declared.session.Session.{Session}
use Rattle.bgp_session.specs.declared.session.State.{State}
use Rattle.bgp_session.specs.declared.session.State.TheVariants.{Idle, OpenSent, OpenConfirm, Established}
use Rattle.bgp_session.specs.declared.step.Step.{Step}
use Rattle.bgp_session.specs.declared.step.Step.TheVariants.{Say}
use Rattle.bgp_session.specs.Sessions.{Event, peer_says, moment_comes, fresh, said_of, leads}

-- an event at a moment
pub record Happened : Type 0 where
  pub at : Moment
  pub what : Event

-- what happened, the latest first
abbrev pub Story : Type 0
Story = List Happened

-- the session that a story leads to, from its beginning
abbrev pub session_of : (our_as id : ℕ) → Story → Session
session_of our_as id [] = fresh our_as id
session_of our_as id (h ∷ before) = (leads (session_of our_as id before) h.at h.what).0

-- what an event that comes next leads to
abbrev pub step_at : (our_as id : ℕ) → Story → Happened → Step
step_at our_as id before h = (leads (session_of our_as id before) h.at h.what).1

-- the moment of the last message that was said, 0 where none was
abbrev pub said_or : Option Said → (now before : Moment) → Moment
said_or None now before = before
said_or (Some message) now before = now

abbrev pub last_said : (our_as id : ℕ) → Story → Moment
last_said our_as id [] = record { 0 = 0 }
last_said our_as id (h ∷ before) = said_or (said_of (step_at our_as id before h)) h.at (last_said our_as id before)

-- the moment of the last message that came
abbrev pub heard_or : Event → (now before : Moment) → Moment
heard_or (peer_says message) now before = now
heard_or event now before = before

abbrev pub last_heard : Story → Moment
last_heard [] = record { 0 = 0 }
last_heard (h ∷ before) = heard_or h.what h.at (last_heard before)

-- the hold time agreed on: the smaller one of 90 seconds and that of the last OPEN that came
abbrev pub agreed_or : Event → ℕ → ℕ
agreed_or (peer_says (messages.Open o)) before = min 90 o.hold
agreed_or event before = before

abbrev pub agreed : Story → ℕ
agreed [] = 0
agreed (h ∷ before) = agreed_or h.what (agreed before)

-- the peer's OPEN was taken, and the session is open
abbrev pub IsAgreed : (our_as id : ℕ) → Story → Type 0
IsAgreed our_as id story = let s = session_of our_as id story in (s.state ≡ OpenConfirm) ⊎ (s.state ≡ Established)

-- timers run: the session is open, and its hold time isn't 0
pub record Runs (our_as id : ℕ) (story : Story) : Type 0 where
  pub is_agreed : IsAgreed our_as id story
  pub some : 0 < agreed story

-- the hold time is over
abbrev pub IsOver : Story → (now : Moment) → Type 0
IsOver story now = agreed story * 1000 ≤ now.0 - (last_heard story).0

-- a third of it went by without a word
abbrev pub IsQuiet : (our_as id : ℕ) → Story → (now : Moment) → Type 0
IsQuiet our_as id story now = agreed story * 1000 ≤ 3 * (now.0 - (last_said our_as id story).0)

abbrev pub at_moment : Moment → Happened
at_moment now = record { at = now; what = moment_comes }

-- the types of the messages that came since our OPEN was said, the latest first
abbrev pub came_or : Step → Event → List Kind → List Kind
came_or (Say (words.Open o)) event before = []
came_or step (peer_says message) before = kind_of_message message ∷ before
came_or step event before = before

abbrev pub came : (our_as id : ℕ) → Story → List Kind
came our_as id [] = []
came our_as id (h ∷ before) = came_or (step_at our_as id before h) h.what (came our_as id before)

abbrev pub is_routine : Kind → Bool
is_routine kinds.Open = false
is_routine kinds.Update = true
is_routine kinds.Notification = false
is_routine kinds.KeepAlive = true

-- an OPEN, a KEEPALIVE, and then UPDATEs and KEEPALIVEs alone
pub record IsEstablishedBy (came : List Kind) : Type 0 where
  pub later : List Kind
  pub all : came ≡ later ++ kinds.KeepAlive ∷ kinds.Open ∷ []
  pub routine : list_all is_routine later ≡ true

-- what came in an open session, by its state
abbrev pub CameTo : State → List Kind → Type 0
CameTo Idle came = Unit {0}
CameTo OpenSent came = came ≡ []
CameTo OpenConfirm came = came ≡ kinds.Open ∷ []
CameTo Established came = IsEstablishedBy came
