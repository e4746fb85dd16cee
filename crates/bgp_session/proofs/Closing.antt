-- What ends a session, and what is awaited.
use Rattle.std.proofs.Common.{◌≡◌, ℕ, Bool, true, false, cond, refl}
use Rattle.std.specs.Prelude.{◌↔◌, ◌==◌}
use Rattle.net_base.specs.declared.numbers.Moment.{Moment}
use Rattle.bgp_messages.specs.declared.fault.Fault.{Fault}
use Rattle.bgp_messages.specs.declared.fault.Fault.TheVariants.{HoldTimerExpired, FiniteStateMachineError}
use Rattle.bgp_messages.specs.declared.message.Open.{Open}
use Rattle.bgp_messages.specs.declared.message.Update.{Update}
use Rattle.bgp_messages.specs.declared.message.Message.{Message}
use Rattle.bgp_messages.specs.declared.message.Message.TheVariants as messages
use Rattle.bgp_messages.specs.declared.said.Said.TheVariants as words
use Rattle.bgp_messages.specs.Messages.{kind_of_message}
use Rattle.bgp_session.specs.declared.session.Session.{Session}
use Rattle.bgp_session.specs.declared.session.State.{State}
use Rattle.bgp_session.specs.declared.session.State.TheVariants.{Idle, OpenSent, OpenConfirm, Established}
use Rattle.bgp_session.specs.declared.step.Step.{Step}
use Rattle.bgp_session.specs.declared.step.Step.TheVariants.{Nothing, Say, Refuse}
use Rattle.bgp_session.specs.Sessions.{Event, peer_opens, peer_says, fault_met, moment_comes, link_ends, is_open, is_awaited, stays, refuses, is_over, is_quiet, leads}
use Rattle.bgp_session.proofs.Kept.{session}

-- ---- refusals

module _ (o : Open) (h : ℕ) (hd sd now : Moment) (fault : Fault) where
  tested_over : (st : State) (a b c : Bool) → let s = session o st h hd sd in
      let r = cond a (stays s) (cond b (refuses s HoldTimerExpired) (cond c (record s { said = now }, Say words.KeepAlive) (stays s))) in
      r.1 ≡ Refuse fault → r.0.state ≡ Idle
  tested_over st true b c e = absurd (cc)
  tested_over st false true c e = refl
  tested_over st false false true e = absurd (cc)
  tested_over st false false false e = absurd (cc)

  over : (st : State) (e : Event) → (leads (session o st h hd sd) now e).1 ≡ Refuse fault → (leads (session o st h hd sd) now e).0.state ≡ Idle
  over Idle peer_opens q = absurd (cc)
  over Idle (peer_says m) q = absurd (cc)
  over Idle (fault_met x) q = absurd (cc)
  over Idle moment_comes q = absurd (cc)
  over Idle link_ends q = absurd (cc)
  over OpenSent peer_opens q = absurd (cc)
  over OpenSent (peer_says (messages.Open p)) q = absurd (cc)
  over OpenSent (peer_says (messages.Update u)) q = refl
  over OpenSent (peer_says (messages.Notification n)) q = refl
  over OpenSent (peer_says messages.KeepAlive) q = refl
  over OpenSent (fault_met x) q = refl
  over OpenSent moment_comes q = tested_over OpenSent (h == 0) (is_over h hd now) (is_quiet h sd now) q
  over OpenSent link_ends q = refl
  over OpenConfirm peer_opens q = absurd (cc)
  over OpenConfirm (peer_says (messages.Open p)) q = refl
  over OpenConfirm (peer_says (messages.Update u)) q = refl
  over OpenConfirm (peer_says (messages.Notification n)) q = refl
  over OpenConfirm (peer_says messages.KeepAlive) q = absurd (cc)
  over OpenConfirm (fault_met x) q = refl
  over OpenConfirm moment_comes q = tested_over OpenConfirm (h == 0) (is_over h hd now) (is_quiet h sd now) q
  over OpenConfirm link_ends q = refl
  over Established peer_opens q = absurd (cc)
  over Established (peer_says (messages.Open p)) q = refl
  over Established (peer_says (messages.Update u)) q = absurd (cc)
  over Established (peer_says (messages.Notification n)) q = refl
  over Established (peer_says messages.KeepAlive) q = absurd (cc)
  over Established (fault_met x) q = refl
  over Established moment_comes q = tested_over Established (h == 0) (is_over h hd now) (is_quiet h sd now) q
  over Established link_ends q = refl

pub is_the_end : (s : Session) (now : Moment) (event : Event) (fault : Fault) → (leads s now event).1 ≡ Refuse fault → (leads s now event).0.state ≡ Idle
is_the_end s now event fault e = over s.ours s.hold s.heard s.said now fault s.state event e

pub silence : (s : Session) (now : Moment) (event : Event) → s.state ≡ Idle → (event ≡ peer_opens → ⊥) → leads s now event ≡ stays s
silence s now event e ne = by s.state e event ne
  where
    by : (state : State) → state ≡ Idle → (v : Event) → (v ≡ peer_opens → ⊥) → leads (session s.ours state s.hold s.heard s.said) now v ≡ stays (session s.ours state s.hold s.heard s.said)
    by Idle q peer_opens n = absurd (n refl)
    by Idle q (peer_says m) n = refl
    by Idle q (fault_met x) n = refl
    by Idle q moment_comes n = refl
    by Idle q link_ends n = refl
    by OpenSent q v n = absurd (cc)
    by OpenConfirm q v n = absurd (cc)
    by Established q v n = absurd (cc)

-- ---- what is awaited

awaited : (step : Step) → (step ≡ Refuse FiniteStateMachineError → ⊥) → (step ≡ Refuse FiniteStateMachineError) ↔ (true ≡ false)
awaited step n = ((λ e. absurd (n e)), λ e. absurd (cc))

not_awaited : (step : Step) → step ≡ Refuse FiniteStateMachineError → (step ≡ Refuse FiniteStateMachineError) ↔ (false ≡ false)
not_awaited step e = ((λ q. refl), λ q. e)

pub by_state : (s : Session) (now : Moment) (message : Message) → is_open s.state ≡ true
    → ((leads s now (peer_says message)).1 ≡ Refuse FiniteStateMachineError) ↔ (is_awaited s.state (kind_of_message message) ≡ false)
by_state s now message e = by s.state message e
  where
    by : (state : State) (m : Message) → is_open state ≡ true
        → ((leads (session s.ours state s.hold s.heard s.said) now (peer_says m)).1 ≡ Refuse FiniteStateMachineError) ↔ (is_awaited state (kind_of_message m) ≡ false)
    by Idle m q = absurd (cc)
    by OpenSent (messages.Open p) q = awaited _ (λ e. cc)
    by OpenSent (messages.Update u) q = not_awaited _ refl
    by OpenSent (messages.Notification n) q = awaited _ (λ e. cc)
    by OpenSent messages.KeepAlive q = not_awaited _ refl
    by OpenConfirm (messages.Open p) q = not_awaited _ refl
    by OpenConfirm (messages.Update u) q = not_awaited _ refl
    by OpenConfirm (messages.Notification n) q = awaited _ (λ e. cc)
    by OpenConfirm messages.KeepAlive q = awaited _ (λ e. cc)
    by Established (messages.Open p) q = not_awaited _ refl
    by Established (messages.Update u) q = awaited _ (λ e. cc)
    by Established (messages.Notification n) q = awaited _ (λ e. cc)
    by Established messages.KeepAlive q = awaited _ (λ e. cc)

-- ---- further connections, and UPDATEs

pub another_stays : (s : Session) (now : Moment) → is_open s.state ≡ true → leads s now peer_opens ≡ stays s
another_stays s now e = by s.state e
  where
    by : (state : State) → is_open state ≡ true → leads (session s.ours state s.hold s.heard s.said) now peer_opens ≡ stays (session s.ours state s.hold s.heard s.said)
    by Idle q = absurd (cc)
    by OpenSent q = refl
    by OpenConfirm q = refl
    by Established q = refl

pub update_taken : (s : Session) (now : Moment) (u : Update) → is_open s.state ≡ true
    → ((leads s now (peer_says (messages.Update u))).1 ≡ Nothing) ↔ (s.state ≡ Established)
update_taken s now u e = by s.state e
  where
    by : (state : State) → is_open state ≡ true
        → ((leads (session s.ours state s.hold s.heard s.said) now (peer_says (messages.Update u))).1 ≡ Nothing) ↔ (state ≡ Established)
    by Idle q = absurd (cc)
    by OpenSent q = ((λ k. absurd (cc)), λ k. absurd (cc))
    by OpenConfirm q = ((λ k. absurd (cc)), λ k. absurd (cc))
    by Established q = ((λ k. refl), λ k. refl)
