-- What is left unread is less than a message.
use Rattle.std.proofs.Common.{◌≡◌, ℕ, ◌≤◌, ◌<◌, Bool, true, false, cond, not, ◌||◌, List, [], ◌∷◌, ◌++◌, length, drop, Option, Some, None, Result, Ok, Err, refl, sym, ap, ◌∙◌, subst, arith, length-drop}
use Rattle.std.specs.Prelude.{◌==◌, nat_lt}
use Rattle.std.specs.Option.{option_map_or}
use Rattle.std.proofs.lemmas.Bool.Decides.{nat_tests}
use Rattle.fg_outside.specs.declared.hub.EndCause.{EndCause}
use Rattle.fg_outside.specs.declared.hub.Happening.{Happening}
use Rattle.fg_outside.specs.declared.hub.Happening.TheVariants.{Opened, Heard, Closed, Moment as Shown, Reload}
use Rattle.bgp_messages.specs.declared.fault.Fault.{Fault}
use Rattle.bgp_messages.specs.declared.fault.Fault.TheVariants.{ConnectionNotSynchronized, BadMessageLength}
use Rattle.bgp_messages.specs.declared.head.Head.{Head}
use Rattle.bgp_messages.specs.declared.head.Front.{Front}
use Rattle.bgp_messages.specs.declared.head.Front.TheVariants.{NotYet, Refused, Whole}
use Rattle.bgp_messages.specs.Heads.{is_marked, length_in, kind_in, typed_head, head_of, front_with, front_of}
use Rattle.bgp_session.specs.declared.session.State.{State}
use Rattle.bgp_session.specs.declared.session.State.TheVariants.{Idle, OpenSent, OpenConfirm, Established}
use Rattle.bgp_session.specs.declared.step.Step.{Step}
use Rattle.bgp_session.specs.declared.step.Step.TheVariants.{Nothing, Say, Refuse, Told}
use Rattle.bgp_session.specs.Sessions.{moment_comes, fault_met, is_open, leads}
use Rattle.bgp_session.proofs.Kept.{session}
use Rattle.bgp_peer.specs.declared.known.Known.{Known}
use Rattle.bgp_peer.specs.declared.peer.Peer.{Peer}
use Rattle.bgp_peer.specs.declared.peer.Peering.{Peering}
use Rattle.bgp_peer.specs.Peers.{is_on, act, stepped, takes, opens, turned_away, lost, ticks}
use Rattle.bgp_peer.specs.Turns.{hear_front, hear_next, hear_all, opened_beside, opened, heard, closed, at_moment, anew, turn}
use Rattle.bgp_peer.specs.Stories.{Story, behind, moment_of, last_said}
use Rattle.bgp_peer.proofs.Behind.{holds}
use Rattle.bgp_peer.proofs.Cutting.{settled}
use Rattle.bgp_peer.proofs.Fronts.{typed, whole_is}
use Rattle.bgp_peer.proofs.Sound.{Connected}

-- ---- where nothing is left to hear

none_some : (conn : ℕ) → ◌≡◌ {A = Option ℕ} None (Some conn) → ⊥
none_some conn e = cc

refused_closes : (p : Peer) (conn : ℕ) (fault : Fault) → is_open p.session.state ≡ true → (takes conn (fault_met fault) p).conn ≡ None
refused_closes p conn fault e = by p.session.state e
  where
    by : (st : State) → is_open st ≡ true → let s = session p.session.ours st p.session.hold p.session.heard p.session.said in
        (stepped conn (leads s p.moment (fault_met fault)) (record p { session = s })).conn ≡ None
    by Idle q = absurd (cc)
    by OpenSent q = refl
    by OpenConfirm q = refl
    by Established q = refl

still : (k : Known) (conn : ℕ) → k.peer.conn ≡ Some conn → is_open k.peer.session.state ≡ true → hear_next k ≡ k → front_of k.unread ≡ NotYet
still k conn e open_ stays = by (front_of k.unread) refl
  where
    fronted : (f : Front) → front_of k.unread ≡ f → hear_front conn f k ≡ k
    fronted f q = ap (λ g. hear_front conn g k) (sym q) ∙ sym (ap (λ o. option_map_or (λ c. hear_front c (front_of k.unread) k) o k) e) ∙ stays

    by : (f : Front) → front_of k.unread ≡ f → f ≡ NotYet
    by NotYet q = refl
    by (Refused fault) q =
        absurd (none_some conn (sym (refused_closes k.peer conn fault open_) ∙ ap (λ (x : Known). x.peer.conn) (fronted (Refused fault) q) ∙ e))
    by (Whole head) q =
        let w = whole_is k.unread head q in
        let same : length (drop head.len k.unread) ≡ length k.unread = ap (λ (x : Known). length x.unread) (fronted (Whole head) q) in
        absurd (omega (arith, same, length-drop head.len k.unread, w.header, w.within))

-- ---- one turn

abbrev Waits : Known → Type 0
Waits k = (conn : ℕ) → k.peer.conn ≡ Some conn → front_of k.unread ≡ NotYet

abbrev Opens : Known → Type 0
Opens k = (conn : ℕ) → k.peer.conn ≡ Some conn → is_open k.peer.session.state ≡ true

acted : (conn : ℕ) (step : Step) (p : Peer) (own : ℕ) → (act conn step p).conn ≡ Some own → p.conn ≡ Some own
acted conn Nothing p own e = e
acted conn (Say message) p own e = e
acted conn (Refuse fault) p own e = absurd (none_some own e)
acted conn (Told told) p own e = absurd (none_some own e)

opening : (k : Known) (conn : ℕ) → Waits k → Waits (opened conn k)
opening k conn waits = by k.peer.conn
  where
    beside : (b : Bool) → Waits (cond b k (record k { peer = turned_away conn k.peer }))
    beside true = waits
    beside false = waits

    by : (o : Option ℕ) → Waits (opened_beside o conn k)
    by None = λ own e. refl
    by (Some own) = beside (own == conn)

hearing : (k : Known) (conn : ℕ) (piece : List ℕ) → Waits k → Opens (heard conn piece k) → Waits (heard conn piece k)
hearing k conn piece waits = by (is_on conn k.peer)
  where
    by : (b : Bool) → Opens (cond b (hear_all (record k { unread = k.unread ++ piece })) k) → Waits (cond b (hear_all (record k { unread = k.unread ++ piece })) k)
    by true opens = λ own e.
        still (hear_all (record k { unread = k.unread ++ piece })) own e (opens own e)
        (settled (length (k.unread ++ piece)) (record k { unread = k.unread ++ piece }) (omega arith))
    by false opens = waits

closing : (k : Known) (conn : ℕ) (cause : EndCause) → Waits k → Waits (closed conn cause k)
closing k conn cause waits = by (is_on conn k.peer)
  where
    by : (b : Bool) → Waits (cond b (record k { peer = lost conn cause k.peer }) k)
    by true = λ own e. absurd (none_some own e)
    by false = waits

ticked : (p : Peer) (own : ℕ) → (ticks p).conn ≡ Some own → p.conn ≡ Some own
ticked p own = by p.conn
  where
    by : (o : Option ℕ) → (option_map_or (λ conn. takes conn moment_comes p) o p).conn ≡ Some own → p.conn ≡ Some own
    by None e = e
    by (Some conn) e = let next = leads p.session p.moment moment_comes in acted conn next.1 (record p { session = next.0 }) own e

turned : (h : Happening) (k : Known) → Waits (anew k) → Opens (turn h k) → Waits (turn h k)
turned (Opened conn) k waits opens = opening (anew k) conn waits
turned (Heard conn piece) k waits opens = hearing (anew k) conn piece waits opens
turned (Closed conn cause) k waits opens = closing (anew k) conn cause waits
turned (Shown moment) k waits opens = λ own e. waits own (ticked (at_moment moment (anew k).peer) own e)
turned (Reload text) k waits opens = waits

-- ---- the whole story

opens_behind : (peering : Peering) (story : Story) → Opens (behind peering story)
opens_behind peering story conn e =
    let connected = subst (λ o. Connected (moment_of story) (λ c. last_said peering c story) o (behind peering story).peer.session []) e (holds peering story).connected in connected.opened

pub waits_behind : (peering : Peering) (story : Story) (conn : ℕ) → (behind peering story).peer.conn ≡ Some conn → front_of (behind peering story).unread ≡ NotYet
waits_behind peering [] conn e = refl
waits_behind peering (h ∷ before) conn e = turned h (behind peering before) (waits_behind peering before) (opens_behind peering (h ∷ before)) conn e

-- ---- how many bytes these are

longest : (bytes : List ℕ) (head : Head) → head_of bytes ≡ Ok head → head.len ≤ 4096
longest bytes head e = by (is_marked bytes) (nat_lt (length_in bytes) 19) (nat_lt 4096 (length_in bytes)) refl e
  where
    by : (a b c : Bool) → nat_lt 4096 (length_in bytes) ≡ c
        → ◌≡◌ {A = Result Head Fault} (cond (not a) (Err ConnectionNotSynchronized) (cond (b || c) (Err BadMessageLength) (typed_head (length_in bytes) (kind_in bytes)))) (Ok head) → head.len ≤ 4096
    by false b c q e = absurd (cc)
    by true true c q e = absurd (cc)
    by true false true q e = absurd (cc)
    by true false false q e =
        let t = typed (length_in bytes) (kind_in bytes) head e in
        let most : length_in bytes ≤ 4096 = grind (arith, nat_tests, q) in
        omega (arith, most, t.0)

few_yet : (bytes : List ℕ) → front_of bytes ≡ NotYet → length bytes < 4096
few_yet bytes e = by (nat_lt (length bytes) 19) refl e
  where
    there : (head : Head) → head_of bytes ≡ Ok head → (c : Bool) → nat_lt (length bytes) head.len ≡ c → ◌≡◌ {A = Front} (cond c NotYet (Whole head)) NotYet → length bytes < 4096
    there head q true r e =
        let less : length bytes < head.len = grind (arith, nat_tests, r) in
        omega (arith, less, longest bytes head q)
    there head q false r e = absurd (cc)

    headed : (r : Result Head Fault) → head_of bytes ≡ r → ◌≡◌ {A = Front} (front_with r (length bytes)) NotYet → length bytes < 4096
    headed (Err fault) q e = absurd (cc)
    headed (Ok head) q e = there head q (nat_lt (length bytes) head.len) refl e

    by : (c : Bool) → nat_lt (length bytes) 19 ≡ c → ◌≡◌ {A = Front} (cond c NotYet (front_with (head_of bytes) (length bytes))) NotYet → length bytes < 4096
    by true q e = let less : length bytes < 19 = grind (arith, nat_tests, q) in omega (arith, less)
    by false q e = headed (head_of bytes) refl e

pub few_behind : (peering : Peering) (story : Story) (conn : ℕ) → (behind peering story).peer.conn ≡ Some conn → length (behind peering story).unread < 4096
few_behind peering story conn e = few_yet (behind peering story).unread (waits_behind peering story conn e)
