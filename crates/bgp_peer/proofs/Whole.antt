-- A message that comes whole.
use Rattle.std.proofs.Common.{◌≡◌, ℕ, suc, ◌-◌, ◌≤◌, true, false, cond, List, [], ◌++◌, length, take, drop, Option, Some, None, refl, sym, ap, ap₂, ◌∙◌, arith}
use Rattle.std.specs.Prelude.{nat_lt}
use Rattle.std.specs.Option.{option_map_or}
use Rattle.std.proofs.lemmas.Bool.{le-ltb}
use Rattle.std.proofs.lemmas.List.{append-nil, take_all, drop_all}
use Rattle.fg_outside.specs.declared.hub.Happening.TheVariants.{Heard}
use Rattle.bgp_messages.specs.declared.fault.Fault.TheVariants.{FiniteStateMachineError, Cease}
use Rattle.bgp_messages.specs.declared.head.Front.TheVariants.{Whole}
use Rattle.bgp_messages.specs.declared.kind.Kind.TheVariants as kinds
use Rattle.bgp_messages.specs.declared.message.Message.{Message}
use Rattle.bgp_messages.specs.declared.message.Message.TheVariants.{Update}
use Rattle.bgp_messages.specs.declared.message.Update.{Update as Updating}
use Rattle.bgp_messages.specs.Heads.{front_of}
use Rattle.bgp_messages.specs.Messages.{kind_of_message, Spells}
use Rattle.bgp_messages.proofs.Decoding.{decoded_message}
use Rattle.bgp_messages.proofs.MessageLaws.{front_is_whole}
use Rattle.bgp_session.specs.declared.session.State.TheVariants.{Established}
use Rattle.bgp_session.specs.Sessions.{peer_says, fault_met, is_awaited, leads, hears}
use Rattle.bgp_session.proofs.Kept.{session}
use Rattle.bgp_routes.specs.Updates.{after}
use Rattle.bgp_peer.specs.declared.known.Known.{Known}
use Rattle.bgp_peer.specs.declared.peer.Peer.{Peer}
use Rattle.bgp_peer.specs.Peers.{stepped, takes, hears_message, hears_decoded, hears_body}
use Rattle.bgp_peer.specs.Turns.{known, hear_front, hear_next, hear_each, hear_all, anew, turn, said}
use Rattle.bgp_peer.specs.Stories.{hears_whole}
use Rattle.bgp_peer.proofs.Pieces.{own_is_on}
use Rattle.bgp_peer.proofs.Steps.{nothing_more}

nothing_left : (p : Peer) → hear_next (known p []) ≡ known p []
nothing_left p = by p.conn
  where
    by : (o : Option ℕ) → option_map_or (λ conn. hear_front conn (front_of []) (known p [])) o (known p []) ≡ known p []
    by None = refl
    by (Some conn) = refl

module _ (p : Peer) (conn : ℕ) (m : Message) (bytes : List ℕ) (e : p.conn ≡ Some conn) (s : Spells p.peering.peer_as m bytes) where
  all : take (length bytes) bytes ≡ bytes
  all = take_all (length bytes) bytes (omega arith)

  none : drop (length bytes) bytes ≡ []
  none = drop_all (length bytes) bytes (omega arith)

  front : front_of bytes ≡ Whole (record { kind = kind_of_message m; len = length bytes })
  front = ap front_of (sym (append-nil bytes)) ∙ front_is_whole p.peering.peer_as m bytes [] s

  body : hears_body conn (kind_of_message m) (drop 19 (take (length bytes) bytes)) p ≡ hears_whole conn m p
  body =
      ap (λ l. hears_body conn (kind_of_message m) (drop 19 l) p) all
      ∙ ap (λ r. cond (is_awaited p.session.state (kind_of_message m)) (hears_decoded conn r p) (takes conn (fault_met FiniteStateMachineError) p))
      ((decoded_message p.peering.peer_as (kind_of_message m) (drop 19 bytes) m).1 (refl, s.body))

  one : hear_next (known p bytes) ≡ known (hears_whole conn m p) []
  one =
      ap (λ o. option_map_or (λ c. hear_front c (front_of bytes) (known p bytes)) o (known p bytes)) e
      ∙ ap (λ f. hear_front conn f (known p bytes)) front
      ∙ ap₂ known body none

  pub heard_whole : hear_all (known p bytes) ≡ known (hears_whole conn m p) []
  heard_whole =
      let size : length bytes ≡ suc (length bytes - 1) = omega (arith, s.header) in
      let more = length bytes - 1 in
      ap (λ n. hear_each n (known p bytes)) size ∙ ap (hear_each more) one ∙ nothing_more more (known (hears_whole conn m p) []) (nothing_left (hears_whole conn m p))

pub in_a_turn : (k : Known) (conn : ℕ) (m : Message) (bytes : List ℕ) → k.peer.conn ≡ Some conn → k.unread ≡ [] → Spells k.peer.peering.peer_as m bytes
    → turn (Heard conn bytes) k ≡ known (hears_whole conn m (anew k).peer) []
in_a_turn k conn m bytes e empty s =
    ap (λ b. cond b (hear_all (record (anew k) { unread = k.unread ++ bytes })) (anew k)) (own_is_on conn (anew k).peer e)
    ∙ ap (λ u. hear_all (known (anew k).peer (u ++ bytes))) empty
    ∙ heard_whole (anew k).peer conn m bytes e s

-- ---- an UPDATE

module _ (p : Peer) (conn : ℕ) (u : Updating) (st : p.session.state ≡ Established) (few : length (after p.peering.our_as p.routes u) ≤ 1024) where
  awaited : is_awaited p.session.state kinds.Update ≡ true
  awaited = ap (λ t. is_awaited t kinds.Update) st

  fit : nat_lt 1024 (length (after p.peering.our_as p.routes u)) ≡ false
  fit = le-ltb _ _ few

  taken_is : takes conn (peer_says (Update u)) (record p { routes = after p.peering.our_as p.routes u })
      ≡ stepped conn (hears p.session p.moment Established) (record p { routes = after p.peering.our_as p.routes u })
  taken_is =
      ap (λ t. stepped conn (leads (session p.session.ours t p.session.hold p.session.heard p.session.said) p.moment (peer_says (Update u))) (record p { routes = after p.peering.our_as p.routes u })) st

  pub update_is : hears_whole conn (Update u) p ≡ stepped conn (hears p.session p.moment Established) (record p { routes = after p.peering.our_as p.routes u })
  update_is =
      ap (λ b. cond b (hears_message conn (Update u) p) (takes conn (fault_met FiniteStateMachineError) p)) awaited
      ∙ ap (λ b. cond b (takes conn (fault_met Cease) p) (takes conn (peer_says (Update u)) (record p { routes = after p.peering.our_as p.routes u }))) fit
      ∙ taken_is

pub update_routes : (k : Known) (conn : ℕ) (u : Updating) (bytes : List ℕ) → k.peer.conn ≡ Some conn → k.unread ≡ [] → k.peer.session.state ≡ Established
    → Spells k.peer.peering.peer_as (Update u) bytes → length (after k.peer.peering.our_as k.peer.routes u) ≤ 1024
    → (turn (Heard conn bytes) k).peer.routes ≡ after k.peer.peering.our_as k.peer.routes u
update_routes k conn u bytes e empty st s few =
    ap (λ (x : Known). x.peer.routes) (in_a_turn k conn (Update u) bytes e empty s) ∙ ap (λ (p : Peer). p.routes) (update_is (anew k).peer conn u st few)

pub update_silent : (k : Known) (conn : ℕ) (u : Updating) (bytes : List ℕ) → k.peer.conn ≡ Some conn → k.unread ≡ [] → k.peer.session.state ≡ Established
    → Spells k.peer.peering.peer_as (Update u) bytes → length (after k.peer.peering.our_as k.peer.routes u) ≤ 1024
    → said (turn (Heard conn bytes) k) ≡ []
update_silent k conn u bytes e empty st s few =
    ap said (in_a_turn k conn (Update u) bytes e empty s) ∙ ap (λ (p : Peer). p.said) (update_is (anew k).peer conn u st few)
