-- What holds behind each story.
use Rattle.std.proofs.Common.{◌≡◌, ℕ, ◌≤◌, Bool, true, false, cond, List, [], ◌∷◌, ◌++◌, length, Option, Some, None, refl, sym, ap, ◌∙◌, subst}
use Rattle.std.specs.Prelude.{◌==◌, ◌↔◌, max}
use Rattle.fg_outside.specs.declared.hub.EndCause.{EndCause}
use Rattle.fg_outside.specs.declared.hub.Happening.{Happening}
use Rattle.fg_outside.specs.declared.hub.Happening.TheVariants.{Opened, Heard, Closed, Moment as Shown, Reload}
use Rattle.bgp_session.specs.declared.session.State.TheVariants.{Idle, Established}
use Rattle.bgp_routes.specs.Sets.{AreAscending, LeadToNetworks}
use Rattle.bgp_routes.proofs.Ascending.{are_few, are_ascending}
use Rattle.bgp_routes.proofs.Told.{lead_to_networks}
use Rattle.bgp_peer.specs.declared.known.Known.{Known}
use Rattle.bgp_peer.specs.declared.peer.Peering.{Peering}
use Rattle.bgp_peer.specs.Peers.{is_on, turned_away, lost}
use Rattle.bgp_peer.specs.Turns.{hear_all, opened_beside, opened, heard, closed, at_moment, shown, anew, turn}
use Rattle.bgp_peer.specs.Stories.{Story, behind, peer_behind, moment_or, moment_of, says_on, last_said}
use Rattle.bgp_peer.proofs.Led.{open_not_idle, idle_not_established}
use Rattle.bgp_peer.proofs.Sound.{Connected, Sound, each_heard, opened_first, opened_beside as turned, lost_too, ticked}

-- between two turns nothing is said
abbrev pub Holds : Peering → Story → Type 0
Holds peering story = Sound peering (moment_of story) (λ conn. last_said peering conn story) (anew (behind peering story)).peer

-- ---- one turn

module _ (peering : Peering) (now : ℕ) (last : ℕ → ℕ) where
  opening : (k : Known) (conn : ℕ) → Sound peering now last k.peer → Sound peering now last (opened conn k).peer
  opening k conn sound = by k.peer.conn refl
    where
      beside : (own : ℕ) → k.peer.conn ≡ Some own → (b : Bool) → (own == conn) ≡ b → Sound peering now last (cond b k (record k { peer = turned_away conn k.peer })).peer
      beside own e true q = sound
      beside own e false q = turned peering now last k.peer own conn e q sound

      by : (o : Option ℕ) → k.peer.conn ≡ o → Sound peering now last (opened_beside o conn k).peer
      by None e = opened_first peering now last k.peer conn e sound
      by (Some own) e = beside own e (own == conn) refl

  hearing : (k : Known) (conn : ℕ) (piece : List ℕ) → Sound peering now last k.peer → Sound peering now last (heard conn piece k).peer
  hearing k conn piece sound = by (is_on conn k.peer)
    where
      by : (b : Bool) → Sound peering now last (cond b (hear_all (record k { unread = k.unread ++ piece })) k).peer
      by true = each_heard peering now last (length (k.unread ++ piece)) (record k { unread = k.unread ++ piece }) sound
      by false = sound

  closing : (k : Known) (conn : ℕ) (cause : EndCause) → Sound peering now last k.peer → Sound peering now last (closed conn cause k).peer
  closing k conn cause sound = by (is_on conn k.peer)
    where
      by : (b : Bool) → Sound peering now last (cond b (record k { peer = lost conn cause k.peer }) k).peer
      by true = lost_too peering now last k.peer conn cause sound
      by false = sound

  -- the clock goes on where nothing was said
  showing : (k : Known) (moment : ℕ) → Sound peering now last (anew k).peer → Sound peering (max now moment) last (shown moment (anew k)).peer
  showing k moment sound = ticked peering (max now moment) last (at_moment moment (anew k).peer) (record {
    same = sound.same;
    clock = ap (λ n. max n moment) sound.clock;
    connected = by k.peer.conn sound.connected;
    routes = sound.routes;
    folded = sound.folded;
  })
    where
      by : (o : Option ℕ) → Connected now last o k.peer.session [] → Connected (max now moment) last o k.peer.session []
      by None c = c
      by (Some conn) c = record { opened = c.opened; said_last = c.said_last; waits = c.waits }

  turned_so : (h : Happening) (k : Known) → Sound peering now last (anew k).peer → Sound peering (moment_or h now) last (turn h k).peer
  turned_so (Opened conn) k sound = opening (anew k) conn sound
  turned_so (Heard conn piece) k sound = hearing (anew k) conn piece sound
  turned_so (Closed conn cause) k sound = closing (anew k) conn cause sound
  turned_so (Shown moment) k sound = showing k moment sound
  turned_so (Reload text) k sound = sound

-- ---- the whole story

ended_turn : (peering : Peering) (now : ℕ) (last : ℕ → ℕ) (later : ℕ → ℕ) (k : Known) → ((conn : ℕ) → later conn ≡ cond (says_on conn k.peer.said) now (last conn)) → Sound peering now last k.peer
    → Sound peering now later (anew k).peer
ended_turn peering now last later k is sound = record { same = sound.same; clock = sound.clock; connected = by k.peer.conn sound.connected; routes = sound.routes; folded = sound.folded }
  where
    by : (o : Option ℕ) → Connected now last o k.peer.session k.peer.said → Connected now later o k.peer.session []
    by None c = c
    by (Some conn) c = record { opened = c.opened; said_last = c.said_last ∙ sym (is conn); waits = c.waits }

pub holds : (peering : Peering) (story : Story) → Holds peering story
holds peering [] = record { same = refl; clock = refl; connected = refl; routes = λ n. refl; folded = ([], refl) }
holds peering (h ∷ before) =
    ended_turn peering (moment_of (h ∷ before)) (λ conn. last_said peering conn before) (λ conn. last_said peering conn (h ∷ before)) (behind peering (h ∷ before)) (λ conn. refl)
    (turned_so peering (moment_of before) (λ conn. last_said peering conn before) h (behind peering before) (holds peering before))

-- ---- what follows

pub few : (peering : Peering) (story : Story) → length (peer_behind peering story).routes ≤ 1024
few peering story = let f = (holds peering story).folded in subst (λ r. length r ≤ 1024) (sym f.1) (are_few peering.our_as f.0)

pub in_order : (peering : Peering) (story : Story) → AreAscending (peer_behind peering story).routes
in_order peering story = let f = (holds peering story).folded in subst AreAscending (sym f.1) (are_ascending peering.our_as f.0)

pub networks : (peering : Peering) (story : Story) → LeadToNetworks (peer_behind peering story).routes
networks peering story = let f = (holds peering story).folded in subst LeadToNetworks (sym f.1) (lead_to_networks peering.our_as f.0)

pub established_alone : (peering : Peering) (story : Story) → ((peer_behind peering story).session.state ≡ Established → ⊥) → (peer_behind peering story).routes ≡ []
established_alone peering story = (holds peering story).routes

module _ (peering : Peering) (story : Story) where
  pub idle_then : (peer_behind peering story).conn ≡ None → (peer_behind peering story).session.state ≡ Idle
  idle_then e = subst (λ o. Connected (moment_of story) (λ conn. last_said peering conn story) o (peer_behind peering story).session []) e (holds peering story).connected

  pub none_when_closed : (peer_behind peering story).conn ≡ None → (peer_behind peering story).routes ≡ []
  none_when_closed e = established_alone peering story (idle_not_established (peer_behind peering story).session.state (idle_then e))

  pub none_then : (peer_behind peering story).session.state ≡ Idle → (peer_behind peering story).conn ≡ None
  none_then e = by (peer_behind peering story).conn (holds peering story).connected
    where
      by : (o : Option ℕ) → Connected (moment_of story) (λ conn. last_said peering conn story) o (peer_behind peering story).session [] → o ≡ None
      by None c = refl
      by (Some conn) c = absurd (open_not_idle (peer_behind peering story).session.state c.opened e)

  pub has_connection : ((peer_behind peering story).conn ≡ None) ↔ ((peer_behind peering story).session.state ≡ Idle)
  has_connection = (idle_then, none_then)
