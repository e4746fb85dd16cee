-- A speaker over all that happens, and what can be read off its story.
use Rattle.std.specs.Prelude.{◌≡◌, ℕ, ◌*◌, ◌-◌, ◌<◌, ◌≤◌, max, ◌==◌, Bool, false, if◌then◌else◌, List, [], ◌∷◌, ◌++◌, Some, None, ◌⊎◌}
use Rattle.std.specs.List.{list_any}
use Rattle.fg_outside.specs.declared.hub.Happening.{Happening}
use Rattle.fg_outside.specs.declared.hub.Happening.TheVariants.{Moment as Shown}
use Rattle.bgp_messages.specs.declared.message.Message.{Message}
use Rattle.bgp_messages.specs.declared.fault.Fault.TheVariants.{FiniteStateMachineError}
use Rattle.bgp_messages.specs.Messages.{kind_of_message, Spells}
use Rattle.bgp_session.specs.Sessions.{fault_met, is_awaited}
use Rattle.bgp_peer.specs.declared.known.Known.{Known}
use Rattle.bgp_peer.specs.declared.peer.Peer.{Peer}
use Rattle.bgp_peer.specs.declared.peer.Peering.{Peering}
use Rattle.bgp_peer.specs.declared.saying.BgpClosing.{BgpClosing}
use Rattle.bgp_peer.specs.declared.saying.BgpSaying.{BgpSaying}
use Rattle.bgp_peer.specs.declared.saying.BgpSaying.TheVariants.{Send, Close}
use Rattle.bgp_peer.specs.Peers.{takes, hears_message}
use Rattle.bgp_peer.specs.Turns.{begun, turn, said}

-- what happened, the latest first
abbrev pub Story : Type 0
Story = List Happening

-- what is known behind a story, from its beginning: a fold over what happened
abbrev pub behind : Peering → Story → Known
behind peering [] = begun peering
behind peering (h ∷ before) = turn h (behind peering before)

abbrev pub peer_behind : Peering → Story → Peer
peer_behind peering story = (behind peering story).peer

-- what is said when this happens next
abbrev pub said_at : Peering → Story → Happening → List BgpSaying
said_at peering before h = said (turn h (behind peering before))

-- the latest moment that was shown, 0 where none was
abbrev pub moment_or : Happening → ℕ → ℕ
moment_or (Shown moment) before = max before moment
moment_or h before = before

abbrev pub moment_of : Story → ℕ
moment_of [] = 0
moment_of (h ∷ before) = moment_or h (moment_of before)

-- a message is said on this connection
abbrev pub is_said_on : (conn : ℕ) → BgpSaying → Bool
is_said_on conn (Send other bytes) = other == conn
is_said_on conn (Close other cause) = false

abbrev pub says_on : (conn : ℕ) → List BgpSaying → Bool
says_on conn sayings = list_any (is_said_on conn) sayings

-- the moment of the last message that was said on it, 0 where none was
abbrev pub last_said : Peering → (conn : ℕ) → Story → ℕ
last_said peering conn [] = 0
last_said peering conn (h ∷ before) = if says_on conn (said_at peering before h) then moment_of (h ∷ before) else last_said peering conn before

-- at a moment that is shown next, a KEEPALIVE is due on the connection of the session: timers run, the hold time
-- isn't over since the last message heard, and a third of it went by since the last message said on the connection
pub record IsDue (peering : Peering) (conn : ℕ) (story : Story) (moment : ℕ) : Type 0 where
  pub runs : 0 < (peer_behind peering story).session.hold
  pub in_time : (peer_behind peering story).session.hold * 1000 ≤ moment_of (Shown moment ∷ story) - (peer_behind peering story).session.heard.0 → ⊥
  pub quiet : (peer_behind peering story).session.hold * 1000 ≤ 3 * (moment_of (Shown moment ∷ story) - last_said peering conn story)

-- at a moment that is shown next, the hold time is over since the last message heard
pub record IsLate (peering : Peering) (story : Story) (moment : ℕ) : Type 0 where
  pub runs : 0 < (peer_behind peering story).session.hold
  pub over : (peer_behind peering story).session.hold * 1000 ≤ moment_of (Shown moment ∷ story) - (peer_behind peering story).session.heard.0

-- what is said can be read by a peer that expects this AS
abbrev pub IsRead : (our_as : ℕ) → BgpSaying → Type 0
IsRead our_as (Send conn bytes) = (message : Message) × Spells our_as message bytes
IsRead our_as (Close conn cause) = Unit {0}

-- a connection is gone, and the routes with it; that it closed was said last
pub record IsGone (conn : ℕ) (p : Peer) : Type 0 where
  pub none : p.conn ≡ None
  pub routes : p.routes ≡ []
  pub front : List BgpSaying
  pub cause : BgpClosing
  pub last : p.said ≡ front ++ Close conn cause ∷ []

-- a connection goes on or is gone
abbrev pub GoesOn : (conn : ℕ) → Peer → Type 0
GoesOn conn p = (p.conn ≡ Some conn) ⊎ IsGone conn p

-- what a message that comes whole leads to, by the state
abbrev pub hears_whole : (conn : ℕ) → Message → Peer → Peer
hears_whole conn message p = if is_awaited p.session.state (kind_of_message message) then hears_message conn message p else takes conn (fault_met FiniteStateMachineError) p
