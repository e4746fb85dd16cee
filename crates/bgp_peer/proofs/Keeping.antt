-- What each step of the session keeps is kept by all that is heard.
use Rattle.std.proofs.Common.{◌≡◌, ℕ, zero, suc, Bool, true, false, cond, List, length, take, drop, Option, Some, None, Result, Ok, Err, refl, ◌⊎◌, inr}
use Rattle.std.specs.Prelude.{nat_lt}
use Rattle.std.specs.Option.{option_map_or}
use Rattle.bgp_messages.specs.declared.fault.Fault.{Fault}
use Rattle.bgp_messages.specs.declared.fault.Fault.TheVariants.{FiniteStateMachineError, Cease}
use Rattle.bgp_messages.specs.declared.head.Front.{Front}
use Rattle.bgp_messages.specs.declared.head.Front.TheVariants.{NotYet, Refused, Whole}
use Rattle.bgp_messages.specs.declared.kind.Kind.{Kind}
use Rattle.bgp_messages.specs.declared.message.Message.{Message}
use Rattle.bgp_messages.specs.declared.message.Message.TheVariants.{Open, Update, Notification, KeepAlive}
use Rattle.bgp_messages.specs.Decoding.{decoded}
use Rattle.bgp_messages.specs.Heads.{front_of}
use Rattle.bgp_session.specs.declared.step.Step.{Step}
use Rattle.bgp_session.specs.declared.step.Step.TheVariants.{Nothing, Say, Refuse, Told}
use Rattle.bgp_session.specs.Sessions.{Event, peer_says, fault_met, is_awaited, leads}
use Rattle.bgp_routes.specs.declared.routes.BgpRoute.{BgpRoute}
use Rattle.bgp_routes.specs.Updates.{after}
use Rattle.bgp_peer.specs.declared.known.Known.{Known}
use Rattle.bgp_peer.specs.declared.peer.Peer.{Peer}
use Rattle.bgp_peer.specs.Peers.{act, takes, hears_message, hears_decoded, hears_body}
use Rattle.bgp_peer.specs.Turns.{hear_front, hear_next, hear_each}

module _ (P : Peer → Type 0) (by_event : (conn : ℕ) (event : Event) (p : Peer) → p.conn ≡ Some conn → P p → P (takes conn event p)) (by_routes : (p : Peer) (conn : ℕ) (routes : List BgpRoute) → p.conn ≡ Some conn → P p → P (record p { routes = routes })) where
  one_of : (b : Bool) (x y : Peer) → P x → P y → P (cond b x y)
  one_of true x y g h = g
  one_of false x y g h = h

  module _ (conn : ℕ) where
    message_kept : (message : Message) (p : Peer) → p.conn ≡ Some conn → P p → P (hears_message conn message p)
    message_kept (Open o) p e g = by_event conn (peer_says (Open o)) p e g
    message_kept (Update u) p e g =
        let routes = after p.peering.our_as p.routes u in
        one_of (nat_lt 1024 (length routes)) (takes conn (fault_met Cease) p) (takes conn (peer_says (Update u)) (record p { routes = routes }))
        (by_event conn (fault_met Cease) p e g) (by_event conn (peer_says (Update u)) (record p { routes = routes }) e (by_routes p conn routes e g))
    message_kept (Notification n) p e g = by_event conn (peer_says (Notification n)) p e g
    message_kept KeepAlive p e g = by_event conn (peer_says KeepAlive) p e g

    decoded_kept : (r : Result Message Fault) (p : Peer) → p.conn ≡ Some conn → P p → P (hears_decoded conn r p)
    decoded_kept (Ok message) p e g = message_kept message p e g
    decoded_kept (Err fault) p e g = by_event conn (fault_met fault) p e g

    body_kept : (kind : Kind) (body : List ℕ) (p : Peer) → p.conn ≡ Some conn → P p → P (hears_body conn kind body p)
    body_kept kind body p e g =
        let told = decoded p.peering.peer_as kind body in
        one_of (is_awaited p.session.state kind) (hears_decoded conn told p) (takes conn (fault_met FiniteStateMachineError) p)
        (decoded_kept told p e g) (by_event conn (fault_met FiniteStateMachineError) p e g)

    front_kept : (f : Front) (k : Known) → k.peer.conn ≡ Some conn → P k.peer → P (hear_front conn f k).peer
    front_kept NotYet k e g = g
    front_kept (Refused fault) k e g = by_event conn (fault_met fault) k.peer e g
    front_kept (Whole head) k e g = body_kept head.kind (drop 19 (take head.len k.unread)) k.peer e g

  next_kept : (k : Known) → P k.peer → P (hear_next k).peer
  next_kept k g = by k.peer.conn refl
    where
      by : (o : Option ℕ) → k.peer.conn ≡ o → P (option_map_or (λ conn. hear_front conn (front_of k.unread) k) o k).peer
      by None e = g
      by (Some conn) e = front_kept conn (front_of k.unread) k e g

  pub each_kept : (n : ℕ) (k : Known) → P k.peer → P (hear_each n k).peer
  each_kept zero k g = g
  each_kept (suc n) k g = each_kept n (hear_next k) (next_kept k g)

-- ---- a connection goes on, or is gone

abbrev pub Goes : (conn : ℕ) → Peer → Type 0
Goes conn p = (p.conn ≡ Some conn) ⊎ (p.conn ≡ None)

acted : (own conn : ℕ) (step : Step) (p : Peer) → Goes own p → Goes own (act conn step p)
acted own conn Nothing p g = g
acted own conn (Say message) p g = g
acted own conn (Refuse fault) p g = inr refl
acted own conn (Told told) p g = inr refl

pub each_goes : (own : ℕ) (n : ℕ) (k : Known) → Goes own k.peer → Goes own (hear_each n k).peer
each_goes own n k g =
    each_kept (Goes own) (λ conn event p e h. (let next = leads p.session p.moment event in acted own conn next.1 (record p { session = next.0 }) h)) (λ p c routes e h. h) n k g
