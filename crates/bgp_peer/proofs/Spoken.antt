-- What is said is read.
use Rattle.std.proofs.Common.{◌≡◌, ◌≢◌, ℕ, ◌<◌, ◌^◌, Bool, true, false, cond, List, [], ◌∷◌, ◌++◌, length, Option, Some, None, refl}
use Rattle.std.specs.Prelude.{◌==◌}
use Rattle.std.specs.List.{AllByRecursion}
use Rattle.std.specs.Option.{option_map_or}
use Rattle.fg_outside.specs.declared.hub.EndCause.{EndCause}
use Rattle.fg_outside.specs.declared.hub.Happening.{Happening}
use Rattle.fg_outside.specs.declared.hub.Happening.TheVariants.{Opened, Heard, Closed, Moment as Shown, Reload}
use Rattle.bgp_messages.specs.declared.fault.Fault.{Fault}
use Rattle.bgp_messages.specs.declared.fault.Fault.TheVariants.{Cease}
use Rattle.bgp_messages.specs.declared.said.Said.TheVariants as words
use Rattle.bgp_messages.specs.Said.{message_of}
use Rattle.bgp_messages.proofs.MessageLaws.{said_back}
use Rattle.bgp_session.specs.declared.session.Session.{Session}
use Rattle.bgp_session.specs.declared.step.Step.{Step}
use Rattle.bgp_session.specs.declared.step.Step.TheVariants.{Nothing, Say, Refuse, Told}
use Rattle.bgp_session.specs.Sessions.{Event, peer_opens, moment_comes, link_ends, leads}
use Rattle.bgp_session.proofs.Saying.{SaysWell, ours, step_well}
use Rattle.bgp_peer.specs.declared.known.Known.{Known}
use Rattle.bgp_peer.specs.declared.peer.Peer.{Peer}
use Rattle.bgp_peer.specs.declared.peer.Peering.{Peering}
use Rattle.bgp_peer.specs.declared.saying.BgpClosing.TheVariants.{Heard as Told_by}
use Rattle.bgp_peer.specs.declared.saying.BgpSaying.{BgpSaying}
use Rattle.bgp_peer.specs.declared.saying.BgpSaying.TheVariants.{Close}
use Rattle.bgp_peer.specs.Sayings.{sends, refusal, closing_for}
use Rattle.bgp_peer.specs.Peers.{act, takes, is_on, turned_away, lost, ticks}
use Rattle.bgp_peer.specs.Turns.{hear_all, opened_beside, opened, heard, closed, at_moment, anew, turn}
use Rattle.bgp_peer.specs.Stories.{Story, behind, said_at, IsRead}
use Rattle.bgp_peer.proofs.Keeping.{each_kept}

all_more : (our_as : ℕ) (said : List BgpSaying) (one : BgpSaying) → AllByRecursion (IsRead our_as) said → IsRead our_as one → AllByRecursion (IsRead our_as) (said ++ one ∷ [])
all_more our_as [] one h r = (r, tt)
all_more our_as (x ∷ said) one h r = (h.0, all_more our_as said one h.1 r)

module _ (peering : Peering) (as_fits : peering.our_as < 2 ^ 16) (id_fits : peering.id.0 < 2 ^ 32) (some : peering.id.0 ≢ 0) where
  -- the OPEN that is said is ours, and what was said in this turn is read
  record Speaks (p : Peer) : Type 0 where
    pub own : p.session.ours ≡ ours peering.our_as peering.id.0 as_fits id_fits some
    pub read : AllByRecursion (IsRead peering.our_as) p.said

  more : (p : Peer) (one : BgpSaying) → Speaks p → IsRead peering.our_as one → AllByRecursion (IsRead peering.our_as) (p.said ++ one ∷ [])
  more p one speaks r = all_more peering.our_as p.said one speaks.read r

  refusing : (p : Peer) (conn : ℕ) (fault : Fault) → Speaks p → AllByRecursion (IsRead peering.our_as) ((p.said ++ sends conn (words.Notification fault) ∷ []) ++ Close conn (refusal fault) ∷ [])
  refusing p conn fault speaks =
      let notification = words.Notification fault in
      all_more peering.our_as (p.said ++ sends conn notification ∷ []) (Close conn (refusal fault))
      (more p (sends conn notification) speaks (message_of notification, said_back peering.our_as notification tt)) tt

  acted : (conn : ℕ) (p : Peer) (t : Session) (step : Step) → t.ours ≡ ours peering.our_as peering.id.0 as_fits id_fits some → SaysWell peering.our_as step → Speaks p → Speaks (act conn step (record p { session = t }))
  acted conn p t Nothing o w speaks = record { own = o; read = speaks.read }
  acted conn p t (Say message) o w speaks = record { own = o; read = more p (sends conn message) speaks (message_of message, said_back peering.our_as message w) }
  acted conn p t (Refuse fault) o w speaks = record { own = o; read = refusing p conn fault speaks }
  acted conn p t (Told told) o w speaks = record { own = o; read = more p (Close conn (Told_by told.code told.subcode)) speaks tt }

  by_event : (conn : ℕ) (event : Event) (p : Peer) → Speaks p → Speaks (takes conn event p)
  by_event conn event p speaks =
      let next = leads p.session p.moment event in
      let w = step_well peering.our_as peering.id.0 as_fits id_fits some p.session p.moment event speaks.own in
      acted conn p next.0 next.1 w.ours w.says speaks

  -- ---- one turn

  opening : (k : Known) (conn : ℕ) → Speaks k.peer → Speaks (opened conn k).peer
  opening k conn speaks = by k.peer.conn
    where
      beside : (b : Bool) → Speaks (cond b k (record k { peer = turned_away conn k.peer })).peer
      beside true = speaks
      beside false = record { own = speaks.own; read = refusing k.peer conn Cease speaks }

      by : (o : Option ℕ) → Speaks (opened_beside o conn k).peer
      by None = by_event conn peer_opens (record k.peer { conn = Some conn }) (record { own = speaks.own; read = speaks.read })
      by (Some own) = beside (own == conn)

  hearing : (k : Known) (conn : ℕ) (piece : List ℕ) → Speaks k.peer → Speaks (heard conn piece k).peer
  hearing k conn piece speaks = by (is_on conn k.peer)
    where
      by : (b : Bool) → Speaks (cond b (hear_all (record k { unread = k.unread ++ piece })) k).peer
      by true = each_kept Speaks (λ c event p e h. by_event c event p h) (λ p c routes e h. record { own = h.own; read = h.read }) (length (k.unread ++ piece)) (record k { unread = k.unread ++ piece }) speaks
      by false = speaks

  closing : (k : Known) (conn : ℕ) (cause : EndCause) → Speaks k.peer → Speaks (closed conn cause k).peer
  closing k conn cause speaks = by (is_on conn k.peer)
    where
      by : (b : Bool) → Speaks (cond b (record k { peer = lost conn cause k.peer }) k).peer
      by true = record {
        own = (step_well peering.our_as peering.id.0 as_fits id_fits some k.peer.session k.peer.moment link_ends speaks.own).ours;
        read = more k.peer (Close conn (closing_for cause)) speaks tt;
      }
      by false = speaks

  ticking : (p : Peer) → Speaks p → Speaks (ticks p)
  ticking p speaks = by p.conn
    where
      by : (o : Option ℕ) → Speaks (option_map_or (λ conn. takes conn moment_comes p) o p)
      by None = speaks
      by (Some conn) = by_event conn moment_comes p speaks

  turned : (h : Happening) (k : Known) → Speaks (anew k).peer → Speaks (turn h k).peer
  turned (Opened conn) k speaks = opening (anew k) conn speaks
  turned (Heard conn piece) k speaks = hearing (anew k) conn piece speaks
  turned (Closed conn cause) k speaks = closing (anew k) conn cause speaks
  turned (Shown moment) k speaks = ticking (at_moment moment (anew k).peer) (record { own = speaks.own; read = speaks.read })
  turned (Reload text) k speaks = speaks

  silent : (k : Known) → Speaks k.peer → Speaks (anew k).peer
  silent k speaks = record { own = speaks.own; read = tt }

  -- ---- the whole story

  speaks_behind : (story : Story) → Speaks (anew (behind peering story)).peer
  speaks_behind [] = record { own = refl; read = tt }
  speaks_behind (h ∷ before) = silent (behind peering (h ∷ before)) (turned h (behind peering before) (speaks_behind before))

  pub all_is_read : (story : Story) (h : Happening) → AllByRecursion (IsRead peering.our_as) (said_at peering story h)
  all_is_read story h = (turned h (behind peering story) (speaks_behind story)).read
