-- What a happening leads to, and what is said of it.
use Rattle.std.specs.Prelude.{ℕ, zero, suc, max, ◌==◌, if◌then◌else◌, List, [], ◌++◌, length, take, drop, Option, Some, None}
use Rattle.std.specs.Option.{option_map_or}
use Rattle.fg_outside.specs.declared.hub.EndCause.{EndCause}
use Rattle.fg_outside.specs.declared.hub.Happening.{Happening}
use Rattle.fg_outside.specs.declared.hub.Happening.TheVariants.{Opened, Heard, Closed, Moment as Shown, Reload}
use Rattle.bgp_messages.specs.declared.head.Front.{Front}
use Rattle.bgp_messages.specs.declared.head.Front.TheVariants.{NotYet, Refused, Whole}
use Rattle.bgp_messages.specs.Heads.{front_of}
use Rattle.bgp_session.specs.Sessions.{fault_met}
use Rattle.bgp_peer.specs.declared.known.Known.{Known}
use Rattle.bgp_peer.specs.declared.peer.Peer.{Peer}
use Rattle.bgp_peer.specs.declared.peer.Peering.{Peering}
use Rattle.bgp_peer.specs.declared.saying.BgpSaying.{BgpSaying}
use Rattle.bgp_peer.specs.Peers.{begun_with, is_on, takes, opens, turned_away, lost, ticks, hears_body}

abbrev pub known : Peer → (unread : List ℕ) → Known
known peer unread = record { peer = peer; unread = unread }

abbrev pub begun : Peering → Known
begun peering = known (begun_with peering) []

-- ---- messages in the bytes that came

-- by what stands at their front: a header is judged once its 19 bytes came, a body once all of it did
abbrev pub hear_front : (conn : ℕ) → Front → Known → Known
hear_front conn NotYet k = k
hear_front conn (Refused fault) k = record k { peer = takes conn (fault_met fault) k.peer }
hear_front conn (Whole head) k = known (hears_body conn head.kind (drop 19 (take head.len k.unread)) k.peer) (drop head.len k.unread)

-- where the connection is open
abbrev pub hear_next : Known → Known
hear_next k = option_map_or (λ conn. hear_front conn (front_of k.unread) k) k.peer.conn k

-- one behind the other, so many at most
abbrev pub hear_each : (most : ℕ) → Known → Known
hear_each zero k = k
hear_each (suc most) k = hear_each most (hear_next k)

abbrev pub hear_all : Known → Known
hear_all k = hear_each (length k.unread) k

-- ---- one turn

-- the first connection begins the session; a further one is turned away
abbrev pub opened_beside : Option ℕ → (conn : ℕ) → Known → Known
opened_beside None conn k = known (opens conn k.peer) []
opened_beside (Some open_) conn k = if open_ == conn then k else record k { peer = turned_away conn k.peer }

abbrev pub opened : (conn : ℕ) → Known → Known
opened conn k = opened_beside k.peer.conn conn k

abbrev pub heard : (conn : ℕ) → List ℕ → Known → Known
heard conn piece k = if is_on conn k.peer then hear_all (record k { unread = k.unread ++ piece }) else k

abbrev pub closed : (conn : ℕ) → EndCause → Known → Known
closed conn cause k = if is_on conn k.peer then record k { peer = lost conn cause k.peer } else k

-- a moment that falls counts as none later
abbrev pub at_moment : (moment : ℕ) → Peer → Peer
at_moment moment p = record p { moment = record { 0 = max p.moment.0 moment } }

abbrev pub shown : (moment : ℕ) → Known → Known
shown moment k = record k { peer = ticks (at_moment moment k.peer) }

-- a reload is passed over
abbrev pub work : Happening → Known → Known
work (Opened conn) k = opened conn k
work (Heard conn piece) k = heard conn piece k
work (Closed conn cause) k = closed conn cause k
work (Shown moment) k = shown moment k
work (Reload text) k = k

-- nothing is said yet
abbrev pub anew : Known → Known
anew k = record k { peer = record k.peer { said = [] } }

-- what is said counts from the turn's beginning
abbrev pub turn : Happening → Known → Known
turn h k = work h (anew k)

abbrev pub said : Known → List BgpSaying
said k = k.peer.said
