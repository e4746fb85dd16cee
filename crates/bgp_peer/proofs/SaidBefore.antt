-- What was said before changes nothing of what is said then.
use Rattle.std.proofs.Common.{◌≡◌, ℕ, zero, suc, Bool, true, false, cond, List, [], ◌∷◌, ◌++◌, length, take, drop, Option, Some, None, Result, Ok, Err, refl, ap, ◌∙◌, append_assoc}
use Rattle.std.specs.Prelude.{nat_lt}
use Rattle.std.specs.Option.{option_map_or}
use Rattle.bgp_messages.specs.declared.fault.Fault.{Fault}
use Rattle.bgp_messages.specs.declared.fault.Fault.TheVariants.{FiniteStateMachineError, Cease}
use Rattle.bgp_messages.specs.declared.head.Front.{Front}
use Rattle.bgp_messages.specs.declared.head.Front.TheVariants.{NotYet, Refused, Whole}
use Rattle.bgp_messages.specs.declared.kind.Kind.{Kind}
use Rattle.bgp_messages.specs.declared.message.Message.{Message}
use Rattle.bgp_messages.specs.declared.message.Message.TheVariants.{Open, Update, Notification, KeepAlive}
use Rattle.bgp_messages.specs.declared.said.Said.TheVariants as words
use Rattle.bgp_messages.specs.Decoding.{decoded}
use Rattle.bgp_messages.specs.Heads.{front_of}
use Rattle.bgp_session.specs.declared.step.Step.{Step}
use Rattle.bgp_session.specs.declared.step.Step.TheVariants.{Nothing, Say, Refuse, Told}
use Rattle.bgp_session.specs.Sessions.{Event, peer_says, fault_met, is_awaited, leads}
use Rattle.bgp_routes.specs.Updates.{after}
use Rattle.bgp_peer.specs.declared.known.Known.{Known}
use Rattle.bgp_peer.specs.declared.peer.Peer.{Peer}
use Rattle.bgp_peer.specs.declared.saying.BgpClosing.TheVariants.{Heard}
use Rattle.bgp_peer.specs.declared.saying.BgpSaying.{BgpSaying}
use Rattle.bgp_peer.specs.declared.saying.BgpSaying.TheVariants.{Close}
use Rattle.bgp_peer.specs.Sayings.{sends, refusal}
use Rattle.bgp_peer.specs.Peers.{act, takes, hears_message, hears_decoded, hears_body}
use Rattle.bgp_peer.specs.Turns.{hear_front, hear_next, hear_each}

-- ---- what was said stands in front

module _ (s : List BgpSaying) where
  abbrev pub first : Peer → Peer
  first p = record p { said = s ++ p.said }

  abbrev pub say_first : Known → Known
  say_first k = record k { peer = first k.peer }

  act_first : (conn : ℕ) (step : Step) (p : Peer) → act conn step (first p) ≡ first (act conn step p)
  act_first conn Nothing p = refl
  act_first conn (Say message) p = ap (λ l. record p { said = l }) (append_assoc s p.said (sends conn message ∷ []))
  act_first conn (Refuse fault) p =
      let one = sends conn (words.Notification fault) in
      let two = Close conn (refusal fault) in
      ap (λ l. record p { conn = None; routes = []; said = l ++ two ∷ [] }) (append_assoc s p.said (one ∷ []))
      ∙ ap (λ l. record p { conn = None; routes = []; said = l }) (append_assoc s (p.said ++ one ∷ []) (two ∷ []))
  act_first conn (Told told) p = ap (λ l. record p { conn = None; routes = []; said = l }) (append_assoc s p.said (Close conn (Heard told.code told.subcode) ∷ []))

  takes_first : (conn : ℕ) (event : Event) (p : Peer) → takes conn event (first p) ≡ first (takes conn event p)
  takes_first conn event p = let next = leads p.session p.moment event in act_first conn next.1 (record p { session = next.0 })

  either : (b : Bool) (x y x' y' : Peer) → x ≡ first x' → y ≡ first y' → cond b x y ≡ first (cond b x' y')
  either true x y x' y' e f = e
  either false x y x' y' e f = f

  message_first : (conn : ℕ) (message : Message) (p : Peer) → hears_message conn message (first p) ≡ first (hears_message conn message p)
  message_first conn (Open o) p = takes_first conn (peer_says (Open o)) p
  message_first conn (Update u) p =
      let routes = after p.peering.our_as p.routes u in
      either (nat_lt 1024 (length routes)) _ _ (takes conn (fault_met Cease) p) (takes conn (peer_says (Update u)) (record p { routes = routes }))
      (takes_first conn (fault_met Cease) p) (takes_first conn (peer_says (Update u)) (record p { routes = routes }))
  message_first conn (Notification n) p = takes_first conn (peer_says (Notification n)) p
  message_first conn KeepAlive p = takes_first conn (peer_says KeepAlive) p

  decoded_first : (conn : ℕ) (r : Result Message Fault) (p : Peer) → hears_decoded conn r (first p) ≡ first (hears_decoded conn r p)
  decoded_first conn (Ok message) p = message_first conn message p
  decoded_first conn (Err fault) p = takes_first conn (fault_met fault) p

  body_first : (conn : ℕ) (kind : Kind) (body : List ℕ) (p : Peer) → hears_body conn kind body (first p) ≡ first (hears_body conn kind body p)
  body_first conn kind body p =
      let told = decoded p.peering.peer_as kind body in
      either (is_awaited p.session.state kind) _ _ (hears_decoded conn told p) (takes conn (fault_met FiniteStateMachineError) p)
      (decoded_first conn told p) (takes_first conn (fault_met FiniteStateMachineError) p)

  front_first : (conn : ℕ) (f : Front) (k : Known) → hear_front conn f (say_first k) ≡ say_first (hear_front conn f k)
  front_first conn NotYet k = refl
  front_first conn (Refused fault) k = ap (λ p. record k { peer = p }) (takes_first conn (fault_met fault) k.peer)
  front_first conn (Whole head) k =
      ap (λ p. record { peer = p; unread = drop head.len k.unread }) (body_first conn head.kind (drop 19 (take head.len k.unread)) k.peer)

  next_first : (k : Known) → hear_next (say_first k) ≡ say_first (hear_next k)
  next_first k = by k.peer.conn
    where
      by : (o : Option ℕ) → option_map_or (λ conn. hear_front conn (front_of k.unread) (say_first k)) o (say_first k) ≡ say_first (option_map_or (λ conn. hear_front conn (front_of k.unread) k) o k)
      by None = refl
      by (Some conn) = front_first conn (front_of k.unread) k

  pub each_first : (n : ℕ) (k : Known) → hear_each n (say_first k) ≡ say_first (hear_each n k)
  each_first zero k = refl
  each_first (suc n) k = ap (hear_each n) (next_first k) ∙ each_first n (hear_next k)
