-- The session as states and events (RFC 4271, 8): a peer connects, messages come whole, moments come, the
-- connection ends.
use Rattle.std.specs.Prelude.{ℕ, ◌*◌, ◌-◌, ◌==◌, nat_le, min, Bool, true, false, if◌then◌else◌, Option, Some, None}
use Rattle.net_base.specs.declared.numbers.Moment.{Moment}
use Rattle.bgp_messages.specs.declared.kind.Kind.{Kind}
use Rattle.bgp_messages.specs.declared.kind.Kind.TheVariants as kinds
use Rattle.bgp_messages.specs.declared.fault.Fault.{Fault}
use Rattle.bgp_messages.specs.declared.fault.Fault.TheVariants.{HoldTimerExpired, FiniteStateMachineError}
use Rattle.bgp_messages.specs.declared.message.Message.{Message}
use Rattle.bgp_messages.specs.declared.message.Message.TheVariants as messages
use Rattle.bgp_messages.specs.declared.said.Said.{Said}
use Rattle.bgp_messages.specs.declared.said.Said.TheVariants as words
use Rattle.bgp_session.specs.declared.session.Session.{Session}
use Rattle.bgp_session.specs.declared.session.State.{State}
use Rattle.bgp_session.specs.declared.session.State.TheVariants.{Idle, OpenSent, OpenConfirm, Established}
use Rattle.bgp_session.specs.declared.step.Step.{Step}
use Rattle.bgp_session.specs.declared.step.Step.TheVariants.{Nothing, Say, Refuse, Told}

-- the peer connected, a message came whole, something is wrong with what came, a moment came, the
-- connection ended
pub data Event : Type 0 where
  peer_opens : Event
  peer_says : Message → Event
  fault_met : Fault → Event
  moment_comes : Event
  link_ends : Event

-- before the first connection; a hold time of 90 seconds is offered
abbrev pub fresh : (our_as id : ℕ) → Session
fresh our_as id = record {
  ours = record { sender_as = our_as; hold = 90; id = id };
  state = Idle;
  hold = 0;
  heard = record { 0 = 0 };
  said = record { 0 = 0 };
}

-- what is said at a step
abbrev pub said_of : Step → Option Said
said_of Nothing = None
said_of (Say message) = Some message
said_of (Refuse fault) = Some (words.Notification fault)
said_of (Told notification) = None

abbrev pub is_open : State → Bool
is_open Idle = false
is_open OpenSent = true
is_open OpenConfirm = true
is_open Established = true

-- the types of messages that a state awaits
abbrev pub is_awaited : State → Kind → Bool
is_awaited Idle kind = false
is_awaited OpenSent kinds.Open = true
is_awaited OpenConfirm kinds.KeepAlive = true
is_awaited Established kinds.Update = true
is_awaited Established kinds.KeepAlive = true
is_awaited state kinds.Notification = true
is_awaited state kind = false

-- ---- what an event does

abbrev pub stays : Session → Session × Step
stays s = (s, Nothing)

abbrev pub ended_by : Session → Session
ended_by s = record s { state = Idle; hold = 0 }

abbrev pub refuses : Session → Fault → Session × Step
refuses s fault = (ended_by s, Refuse fault)

-- a connection: an OPEN is said, and no timer runs
abbrev pub begins : Session → Moment → Session × Step
begins s now = (record s { state = OpenSent; hold = 0; heard = now; said = now }, Say (words.Open s.ours))

-- the peer's OPEN: a KEEPALIVE is said, and the smaller hold time counts (4.2)
abbrev pub opens : Session → Moment → (hold : ℕ) → Session × Step
opens s now hold = (record s { state = OpenConfirm; hold = min s.ours.hold hold; heard = now; said = now }, Say words.KeepAlive)

-- another message that is awaited
abbrev pub hears : Session → Moment → State → Session × Step
hears s now state = (record s { state = state; heard = now }, Nothing)

-- a message by the state; one that isn't awaited is refused (6.6)
abbrev pub hears_kind : State → Session → Moment → Message → Session × Step
hears_kind OpenSent s now (messages.Open o) = opens s now o.hold
hears_kind OpenConfirm s now messages.KeepAlive = hears s now Established
hears_kind Established s now messages.KeepAlive = hears s now Established
hears_kind Established s now (messages.Update u) = hears s now Established
hears_kind state s now message = refuses s FiniteStateMachineError

-- a NOTIFICATION ends the session, whatever the state
abbrev pub hears_message : Session → Moment → Message → Session × Step
hears_message s now (messages.Notification told) = (ended_by s, Told told)
hears_message s now message = hears_kind s.state s now message

-- the hold time, in seconds, went by since the last message heard (6.5); a moment that falls counts as none later
abbrev pub is_over : (hold : ℕ) → (heard now : Moment) → Bool
is_over hold heard now = nat_le (hold * 1000) (now.0 - heard.0)

-- a third of it went by since the last message said (4.4)
abbrev pub is_quiet : (hold : ℕ) → (said now : Moment) → Bool
is_quiet hold said now = nat_le (hold * 1000) ((now.0 - said.0) * 3)

-- a moment, where the timers run
abbrev pub passes : Session → Moment → Session × Step
passes s now =
    if is_over s.hold s.heard now then refuses s HoldTimerExpired else (
    if is_quiet s.hold s.said now then (record s { said = now }, Say words.KeepAlive) else stays s)

-- where no session is open, only a connection counts
abbrev pub leads_when : (open_ : Bool) → Session → Moment → Event → Session × Step
leads_when false s now peer_opens = begins s now
leads_when false s now event = stays s
leads_when true s now peer_opens = stays s
leads_when true s now (peer_says message) = hears_message s now message
leads_when true s now (fault_met fault) = refuses s fault
leads_when true s now moment_comes = if s.hold == 0 then stays s else passes s now
leads_when true s now link_ends = (ended_by s, Nothing)

-- the next session and the step
abbrev pub leads : Session → Moment → Event → Session × Step
leads s now event = leads_when (is_open s.state) s now event
