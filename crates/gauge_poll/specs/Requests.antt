-- The requests for counters among what is said, of ports and of flow entries.
use Rattle.std.specs.Prelude.{◌≡◌, ℕ, if◌then◌else◌, List, [], ◌∷◌, ◌++◌, map}
use Rattle.std.specs.List.{flat_map}
use Rattle.fg_outside.specs.declared.hub.Happening.{Happening}
use Rattle.fg_outside.specs.declared.hub.Happening.TheVariants as happenings
use Rattle.of13_codec.specs.declared.message.Message.{Message}
use Rattle.of13_codec.specs.declared.message.Message.TheVariants as messages
use Rattle.ctl_world.specs.declared.said.Said.{Said as Told}
use Rattle.ctl_world.specs.declared.said.Said.TheVariants as told
use Rattle.ctl_world.specs.Connections.{is_open}
use Rattle.gauge_poll.specs.declared.poll.Poll.{Poll}
use Rattle.gauge_poll.specs.Monitoring.{Monitor}
use Rattle.gauge_poll.specs.Polls.{Said, of_others, request_for}

-- a request for counters, on a connection: what it asks for
pub record Request : Type 0 where
  pub conn : ℕ
  pub asks : Message
  pub xid : ℕ

-- one for a port's counters (OpenFlow 1.3, 7.3.5.6), or a message of a type that isn't spelled out, as the one for flow statistics
-- (7.3.5.2)
abbrev pub asked_by : Message → (conn xid : ℕ) → List Request
asked_by (messages.PortStatsRequest port) conn xid = record { conn = conn; asks = messages.PortStatsRequest port; xid = xid } ∷ []
asked_by (messages.Other kind body) conn xid = record { conn = conn; asks = messages.Other kind body; xid = xid } ∷ []
asked_by message conn xid = []

abbrev pub asked_in : Told → List Request
asked_in (told.Message conn message xid) = asked_by message conn xid
asked_in one = []

-- in the order in which they are said
abbrev pub requests : List Told → List Request
requests said = flat_map asked_in said

-- a poll asks for the counters of its kind, with its transaction id
abbrev pub request_of : Poll → Request
request_of p = record { conn = p.conn; asks = request_for p.kind; xid = p.xid }

-- the polls behind these are what was asked for, in order
pub record AreAsked (before : List Poll) (s : Said) : Type 0 where
  pub more : List Poll
  pub behind : s.polls ≡ before ++ more
  pub asked : map request_of more ≡ requests s.world.said

-- the polls that a turn finds: where a connection opens, those of others
abbrev pub found_polls : Happening → Monitor → List Poll
found_polls (happenings.Opened number) k = if is_open k.said.world.conns number then k.said.polls else of_others number k.said.polls
found_polls h k = k.said.polls
