-- What is known of the peer, and what an event of its session leads to (RFC 4271, 8).
use Rattle.std.specs.Prelude.{ℕ, ◌==◌, nat_lt, Bool, false, if◌then◌else◌, List, [], ◌∷◌, ◌++◌, length, Some, None, Result, Ok, Err}
use Rattle.std.specs.Option.{option_map_or}
use Rattle.fg_outside.specs.declared.hub.EndCause.{EndCause}
use Rattle.bgp_messages.specs.declared.kind.Kind.{Kind}
use Rattle.bgp_messages.specs.declared.fault.Fault.{Fault}
use Rattle.bgp_messages.specs.declared.fault.Fault.TheVariants.{FiniteStateMachineError, Cease}
use Rattle.bgp_messages.specs.declared.message.Message.{Message}
use Rattle.bgp_messages.specs.declared.message.Message.TheVariants.{Update}
use Rattle.bgp_messages.specs.declared.said.Said.TheVariants.{Notification}
use Rattle.bgp_messages.specs.Decoding.{decoded}
use Rattle.bgp_session.specs.declared.session.Session.{Session}
use Rattle.bgp_session.specs.declared.step.Step.{Step}
use Rattle.bgp_session.specs.declared.step.Step.TheVariants.{Nothing, Say, Refuse, Told}
use Rattle.bgp_session.specs.Sessions.{Event, peer_opens, peer_says, fault_met, moment_comes, link_ends, fresh, is_awaited, leads}
use Rattle.bgp_routes.specs.Updates.{after}
use Rattle.bgp_peer.specs.declared.peer.Peer.{Peer}
use Rattle.bgp_peer.specs.declared.peer.Peering.{Peering}
use Rattle.bgp_peer.specs.declared.saying.BgpClosing.{BgpClosing}
use Rattle.bgp_peer.specs.declared.saying.BgpClosing.TheVariants.{Heard}
use Rattle.bgp_peer.specs.declared.saying.BgpSaying.{BgpSaying}
use Rattle.bgp_peer.specs.declared.saying.BgpSaying.TheVariants.{Close}
use Rattle.bgp_peer.specs.Sayings.{sends, refusal, closing_for}

-- before the first connection
abbrev pub begun_with : Peering → Peer
begun_with p = record { peering = p; session = fresh p.our_as p.id.0; conn = None; routes = []; moment = record { 0 = 0 }; said = [] }

-- this is the connection of the session
abbrev pub is_on : (conn : ℕ) → Peer → Bool
is_on conn p = option_map_or (λ open_. open_ == conn) p.conn false

-- ---- what is said and closed

abbrev pub add : BgpSaying → Peer → Peer
add saying p = record p { said = p.said ++ saying ∷ [] }

-- the connection of the session is closed, and the routes go
abbrev pub shut : (conn : ℕ) → BgpClosing → Peer → Peer
shut conn cause p = add (Close conn cause) (record p { conn = None; routes = [] })

abbrev pub refused : (conn : ℕ) → Fault → Peer → Peer
refused conn fault p = shut conn (refusal fault) (add (sends conn (Notification fault)) p)

-- what a step of the session leads to on its connection
abbrev pub act : (conn : ℕ) → Step → Peer → Peer
act conn Nothing p = p
act conn (Say message) p = add (sends conn message) p
act conn (Refuse fault) p = refused conn fault p
act conn (Told told) p = shut conn (Heard told.code told.subcode) p

abbrev pub stepped : (conn : ℕ) → Session × Step → Peer → Peer
stepped conn next p = act conn next.1 (record p { session = next.0 })

-- what an event leads to at the present moment
abbrev pub takes : (conn : ℕ) → Event → Peer → Peer
takes conn event p = stepped conn (leads p.session p.moment event) p

-- ---- connections and moments

abbrev pub opens : (conn : ℕ) → Peer → Peer
opens conn p = takes conn peer_opens (record p { conn = Some conn })

-- a further connection, which is closed at once
abbrev pub turned_away : (conn : ℕ) → Peer → Peer
turned_away conn p = add (Close conn (refusal Cease)) (add (sends conn (Notification Cease)) p)

-- the connection of the session ended
abbrev pub lost : (conn : ℕ) → EndCause → Peer → Peer
lost conn cause p = shut conn (closing_for cause) (record p { session = (leads p.session p.moment link_ends).0 })

abbrev pub ticks : Peer → Peer
ticks p = option_map_or (λ conn. takes conn moment_comes p) p.conn p

-- ---- a message

-- an UPDATE changes the routes, unless it leaves more than 1,024 (6.7: an upper bound of prefixes)
abbrev pub hears_message : (conn : ℕ) → Message → Peer → Peer
hears_message conn (Update u) p =
    let routes = after p.peering.our_as p.routes u in
    if nat_lt 1024 (length routes) then takes conn (fault_met Cease) p else takes conn (peer_says (Update u)) (record p { routes = routes })
hears_message conn message p = takes conn (peer_says message) p

abbrev pub hears_decoded : (conn : ℕ) → Result Message Fault → Peer → Peer
hears_decoded conn (Ok message) p = hears_message conn message p
hears_decoded conn (Err fault) p = takes conn (fault_met fault) p

-- a message that isn't awaited is refused, whatever its body (6.6)
abbrev pub hears_body : (conn : ℕ) → Kind → (body : List ℕ) → Peer → Peer
hears_body conn kind body p =
    if is_awaited p.session.state kind then hears_decoded conn (decoded p.peering.peer_as kind body) p else takes conn (fault_met FiniteStateMachineError) p
