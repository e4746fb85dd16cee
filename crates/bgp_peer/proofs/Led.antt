-- What an event leads to in an open session, by the step.
use Rattle.std.proofs.Common.{◌≡◌, ℕ, Bool, true, false, cond, refl}
use Rattle.std.specs.Prelude.{◌==◌}
use Rattle.net_base.specs.declared.numbers.Moment.{Moment}
use Rattle.bgp_messages.specs.declared.fault.Fault.TheVariants.{HoldTimerExpired}
use Rattle.bgp_messages.specs.declared.kind.Kind.TheVariants as kinds
use Rattle.bgp_messages.specs.declared.message.Open.{Open}
use Rattle.bgp_messages.specs.declared.message.Message.TheVariants as messages
use Rattle.bgp_messages.specs.declared.said.Said.TheVariants as words
use Rattle.bgp_session.specs.declared.session.Session.{Session}
use Rattle.bgp_session.specs.declared.session.State.{State}
use Rattle.bgp_session.specs.declared.session.State.TheVariants.{Idle, OpenSent, OpenConfirm, Established}
use Rattle.bgp_session.specs.declared.step.Step.{Step}
use Rattle.bgp_session.specs.declared.step.Step.TheVariants.{Nothing, Say, Refuse, Told}
use Rattle.bgp_session.specs.Sessions.{Event, peer_opens, peer_says, fault_met, moment_comes, link_ends, is_open, is_awaited, stays, refuses, begins, passes, is_over, is_quiet, leads}
use Rattle.bgp_session.proofs.Kept.{session}

-- the session stays open
pub record StaysOpen (s t : Session) : Type 0 where
  pub opened : is_open t.state ≡ true
  pub waits : t.state ≡ OpenSent → (s.state ≡ OpenSent) × (t.hold ≡ s.hold)
  pub established : s.state ≡ Established → t.state ≡ Established

abbrev pub Goes : Session → Moment → (t : Session) → Step → Type 0
Goes s now t Nothing = StaysOpen s t × (t.said ≡ s.said)
Goes s now t (Say message) = StaysOpen s t × (t.said ≡ now)
Goes s now t (Refuse fault) = t.state ≡ Idle
Goes s now t (Told told) = t.state ≡ Idle

-- not the end of the connection
abbrev pub IsWithin : Event → Type 0
IsWithin peer_opens = Unit {0}
IsWithin (peer_says message) = Unit {0}
IsWithin (fault_met fault) = Unit {0}
IsWithin moment_comes = Unit {0}
IsWithin link_ends = ⊥

module _ (o : Open) (h : ℕ) (hd sd now : Moment) where
  stay : (st : State) → is_open st ≡ true → StaysOpen (session o st h hd sd) (session o st h hd sd)
  stay st e = record { opened = e; waits = λ q. (q, refl); established = λ q. q }

  passing : (st : State) → is_open st ≡ true → (a b c : Bool) → let s = session o st h hd sd in
      let r = cond a (stays s) (cond b (refuses s HoldTimerExpired) (cond c (record s { said = now }, Say words.KeepAlive) (stays s))) in Goes s now r.0 r.1
  passing st e true b c = (stay st e, refl)
  passing st e false true c = refl
  passing st e false false true = (record { opened = e; waits = λ q. (q, refl); established = λ q. q }, refl)
  passing st e false false false = (stay st e, refl)

  by_state : (st : State) (event : Event) → is_open st ≡ true → IsWithin event → let s = session o st h hd sd in Goes s now (leads s now event).0 (leads s now event).1
  by_state Idle event e w = absurd (cc)
  by_state OpenSent peer_opens e w = (stay OpenSent refl, refl)
  by_state OpenSent (peer_says (messages.Open p)) e w = (record { opened = refl; waits = λ q. absurd (cc); established = λ q. absurd (cc) }, refl)
  by_state OpenSent (peer_says (messages.Update u)) e w = refl
  by_state OpenSent (peer_says (messages.Notification n)) e w = refl
  by_state OpenSent (peer_says messages.KeepAlive) e w = refl
  by_state OpenSent (fault_met x) e w = refl
  by_state OpenSent moment_comes e w = passing OpenSent refl (h == 0) (is_over h hd now) (is_quiet h sd now)
  by_state OpenSent link_ends e w = absurd w
  by_state OpenConfirm peer_opens e w = (stay OpenConfirm refl, refl)
  by_state OpenConfirm (peer_says (messages.Open p)) e w = refl
  by_state OpenConfirm (peer_says (messages.Update u)) e w = refl
  by_state OpenConfirm (peer_says (messages.Notification n)) e w = refl
  by_state OpenConfirm (peer_says messages.KeepAlive) e w = (record { opened = refl; waits = λ q. absurd (cc); established = λ q. refl }, refl)
  by_state OpenConfirm (fault_met x) e w = refl
  by_state OpenConfirm moment_comes e w = passing OpenConfirm refl (h == 0) (is_over h hd now) (is_quiet h sd now)
  by_state OpenConfirm link_ends e w = absurd w
  by_state Established peer_opens e w = (stay Established refl, refl)
  by_state Established (peer_says (messages.Open p)) e w = refl
  by_state Established (peer_says (messages.Update u)) e w = (record { opened = refl; waits = λ q. absurd (cc); established = λ q. refl }, refl)
  by_state Established (peer_says (messages.Notification n)) e w = refl
  by_state Established (peer_says messages.KeepAlive) e w = (record { opened = refl; waits = λ q. absurd (cc); established = λ q. refl }, refl)
  by_state Established (fault_met x) e w = refl
  by_state Established moment_comes e w = passing Established refl (h == 0) (is_over h hd now) (is_quiet h sd now)
  by_state Established link_ends e w = absurd w

pub led : (s : Session) (now : Moment) (event : Event) → is_open s.state ≡ true → IsWithin event → Goes s now (leads s now event).0 (leads s now event).1
led s now event e w = by_state s.ours s.hold s.heard s.said now s.state event e w

-- ---- at the ends of a session

pub opening_is : (s : Session) (now : Moment) → s.state ≡ Idle → leads s now peer_opens ≡ begins s now
opening_is s now e = by s.state e
  where
    by : (st : State) → st ≡ Idle → leads (session s.ours st s.hold s.heard s.said) now peer_opens ≡ begins (session s.ours st s.hold s.heard s.said) now
    by Idle q = refl
    by OpenSent q = absurd (cc)
    by OpenConfirm q = absurd (cc)
    by Established q = absurd (cc)

pub ended_is_idle : (s : Session) (now : Moment) → (leads s now link_ends).0.state ≡ Idle
ended_is_idle s now = by s.state
  where
    by : (st : State) → (leads (session s.ours st s.hold s.heard s.said) now link_ends).0.state ≡ Idle
    by Idle = refl
    by OpenSent = refl
    by OpenConfirm = refl
    by Established = refl

pub moment_leads : (s : Session) (now : Moment) → is_open s.state ≡ true → leads s now moment_comes ≡ cond (s.hold == 0) (stays s) (passes s now)
moment_leads s now e = by s.state e
  where
    by : (st : State) → is_open st ≡ true → let t = session s.ours st s.hold s.heard s.said in leads t now moment_comes ≡ cond (s.hold == 0) (stays t) (passes t now)
    by Idle q = absurd (cc)
    by OpenSent q = refl
    by OpenConfirm q = refl
    by Established q = refl

-- ---- states

pub updates_awaited : (st : State) → is_awaited st kinds.Update ≡ true → st ≡ Established
updates_awaited Idle e = absurd (cc)
updates_awaited OpenSent e = absurd (cc)
updates_awaited OpenConfirm e = absurd (cc)
updates_awaited Established e = refl

pub open_not_idle : (st : State) → is_open st ≡ true → st ≡ Idle → ⊥
open_not_idle Idle e q = cc
open_not_idle OpenSent e q = cc
open_not_idle OpenConfirm e q = cc
open_not_idle Established e q = cc

pub idle_not_established : (st : State) → st ≡ Idle → st ≡ Established → ⊥
idle_not_established st e q = let both : Idle ≡ Established = cc in cc
