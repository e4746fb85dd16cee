-- What came in a session, by its state.
use Rattle.std.proofs.Common.{◌≡◌, ℕ, Bool, true, false, cond, ◌&&◌, List, [], ◌∷◌, refl, ap, ◌∙◌}
use Rattle.std.specs.Prelude.{◌==◌}
use Rattle.std.specs.List.{list_all}
use Rattle.net_base.specs.declared.numbers.Moment.{Moment}
use Rattle.bgp_messages.specs.declared.fault.Fault.TheVariants.{HoldTimerExpired}
use Rattle.bgp_messages.specs.declared.kind.Kind.{Kind}
use Rattle.bgp_messages.specs.declared.kind.Kind.TheVariants as kinds
use Rattle.bgp_messages.specs.declared.message.Open.{Open}
use Rattle.bgp_messages.specs.declared.message.Message.TheVariants as messages
use Rattle.bgp_messages.specs.declared.said.Said.TheVariants as words
use Rattle.bgp_session.specs.declared.session.Session.{Session}
use Rattle.bgp_session.specs.declared.session.State.{State}
use Rattle.bgp_session.specs.declared.session.State.TheVariants.{Idle, OpenSent, OpenConfirm, Established}
use Rattle.bgp_session.specs.declared.step.Step.{Step}
use Rattle.bgp_session.specs.declared.step.Step.TheVariants.{Say}
use Rattle.bgp_session.specs.Sessions.{Event, peer_opens, peer_says, fault_met, moment_comes, link_ends, stays, refuses, is_over, is_quiet, leads}
use Rattle.bgp_session.specs.Stories.{Story, session_of, came_or, came, is_routine, IsEstablishedBy, CameTo}
use Rattle.bgp_session.proofs.Kept.{session}

abbrev Next : Event → Session × Step → List Kind → Type 0
Next event r before = CameTo r.0.state (came_or r.1 event before)

one_more : (kind : Kind) (before : List Kind) → is_routine kind ≡ true → IsEstablishedBy before → IsEstablishedBy (kind ∷ before)
one_more kind before e f = record {
  later = kind ∷ f.later;
  all = ap (λ k. kind ∷ k) f.all;
  routine = ap (λ b. b && list_all is_routine f.later) e ∙ f.routine;
}

module _ (o : Open) (h : ℕ) (hd sd now : Moment) (before : List Kind) where
  passing : (st : State) → CameTo st before → (a b c : Bool) → let s = session o st h hd sd in
      Next moment_comes (cond a (stays s) (cond b (refuses s HoldTimerExpired) (cond c (record s { said = now }, Say words.KeepAlive) (stays s)))) before
  passing st f true b c = f
  passing st f false true c = tt
  passing st f false false true = f
  passing st f false false false = f

  next : (st : State) (e : Event) → CameTo st before → Next e (leads (session o st h hd sd) now e) before
  next Idle peer_opens f = refl
  next Idle (peer_says m) f = tt
  next Idle (fault_met x) f = tt
  next Idle moment_comes f = tt
  next Idle link_ends f = tt
  next OpenSent peer_opens f = f
  next OpenSent (peer_says (messages.Open p)) f = ap (λ k. kinds.Open ∷ k) f
  next OpenSent (peer_says (messages.Update u)) f = tt
  next OpenSent (peer_says (messages.Notification n)) f = tt
  next OpenSent (peer_says messages.KeepAlive) f = tt
  next OpenSent (fault_met x) f = tt
  next OpenSent moment_comes f = passing OpenSent f (h == 0) (is_over h hd now) (is_quiet h sd now)
  next OpenSent link_ends f = tt
  next OpenConfirm peer_opens f = f
  next OpenConfirm (peer_says (messages.Open p)) f = tt
  next OpenConfirm (peer_says (messages.Update u)) f = tt
  next OpenConfirm (peer_says (messages.Notification n)) f = tt
  next OpenConfirm (peer_says messages.KeepAlive) f = record { later = []; all = ap (λ k. kinds.KeepAlive ∷ k) f; routine = refl }
  next OpenConfirm (fault_met x) f = tt
  next OpenConfirm moment_comes f = passing OpenConfirm f (h == 0) (is_over h hd now) (is_quiet h sd now)
  next OpenConfirm link_ends f = tt
  next Established peer_opens f = f
  next Established (peer_says (messages.Open p)) f = tt
  next Established (peer_says (messages.Update u)) f = one_more kinds.Update before refl f
  next Established (peer_says (messages.Notification n)) f = tt
  next Established (peer_says messages.KeepAlive) f = one_more kinds.KeepAlive before refl f
  next Established (fault_met x) f = tt
  next Established moment_comes f = passing Established f (h == 0) (is_over h hd now) (is_quiet h sd now)
  next Established link_ends f = tt

pub as_far : (our_as id : ℕ) (story : Story) → CameTo (session_of our_as id story).state (came our_as id story)
as_far our_as id [] = tt
as_far our_as id (h ∷ before) =
    let s = session_of our_as id before in
    next s.ours s.hold s.heard s.said h.at (came our_as id before) s.state h.what (as_far our_as id before)
