-- What a session keeps is what can be seen of its story.
use Rattle.std.proofs.Common.{◌≡◌, ℕ, Bool, true, false, cond, [], ◌∷◌, refl, sym, ap, subst}
use Rattle.std.specs.Prelude.{min, ◌==◌}
use Rattle.net_base.specs.declared.numbers.Moment.{Moment}
use Rattle.bgp_messages.specs.declared.fault.Fault.TheVariants.{HoldTimerExpired}
use Rattle.bgp_messages.specs.declared.message.Open.{Open}
use Rattle.bgp_messages.specs.declared.message.Message.TheVariants as messages
use Rattle.bgp_messages.specs.declared.said.Said.TheVariants as words
use Rattle.bgp_session.specs.declared.session.Session.{Session}
use Rattle.bgp_session.specs.declared.session.State.{State}
use Rattle.bgp_session.specs.declared.session.State.TheVariants.{Idle, OpenSent, OpenConfirm, Established}
use Rattle.bgp_session.specs.declared.step.Step.{Step}
use Rattle.bgp_session.specs.declared.step.Step.TheVariants.{Say}
use Rattle.bgp_session.specs.Sessions.{Event, peer_opens, peer_says, fault_met, moment_comes, link_ends, said_of, stays, refuses, is_over, is_quiet, leads}
use Rattle.bgp_session.specs.Stories.{Story, session_of, said_or, last_said, heard_or, last_heard, agreed_or, agreed}

-- by its state: no hold time before the peer's OPEN, and then that of the story, with its moments
abbrev pub Facts : State → Session → (said heard : Moment) → (hold : ℕ) → Type 0
Facts Idle s said heard hold = s.hold ≡ 0
Facts OpenSent s said heard hold = s.hold ≡ 0
Facts OpenConfirm s said heard hold = (s.said ≡ said) × (s.heard ≡ heard) × (s.hold ≡ hold)
Facts Established s said heard hold = (s.said ≡ said) × (s.heard ≡ heard) × (s.hold ≡ hold)

pub record Keeps (s : Session) (said heard : Moment) (hold : ℕ) : Type 0 where
  pub offered : s.ours.hold ≡ 90
  pub facts : Facts s.state s said heard hold

abbrev Next : Moment → Event → Session × Step → (said heard : Moment) → (hold : ℕ) → Type 0
Next now event r said heard hold = Keeps r.0 (said_or (said_of r.1) now said) (heard_or event now heard) (agreed_or event hold)

abbrev pub session : Open → State → ℕ → Moment → Moment → Session
session ours state hold heard said = record { ours = ours; state = state; hold = hold; heard = heard; said = said }

module _ (o : Open) (h : ℕ) (hd sd now : Moment) (said heard_ : Moment) (hold : ℕ) (offered : o.hold ≡ 90) where
  -- a moment while timers may run
  passing : (st : State) → ((n : ℕ) → (s t : Moment) → Facts st (session o st n hd s) t heard_ hold → (s ≡ t) × (hd ≡ heard_) × (n ≡ hold))
      → ((s t : Moment) → (s ≡ t) × (hd ≡ heard_) × (h ≡ hold) → Facts st (session o st h hd s) t heard_ hold)
      → Facts st (session o st h hd sd) said heard_ hold → (a b c : Bool) → let s = session o st h hd sd in
      Next now moment_comes (cond a (stays s) (cond b (refuses s HoldTimerExpired) (cond c (record s { said = now }, Say words.KeepAlive) (stays s)))) said heard_ hold
  passing st from to f true b c = record { offered = offered; facts = f }
  passing st from to f false true c = record { offered = offered; facts = refl }
  passing st from to f false false true = let p = from h sd said f in record { offered = offered; facts = to now now (refl, p.1, p.2) }
  passing st from to f false false false = record { offered = offered; facts = f }

  next : (st : State) (e : Event) → Facts st (session o st h hd sd) said heard_ hold → Next now e (leads (session o st h hd sd) now e) said heard_ hold
  next Idle peer_opens f = record { offered = offered; facts = refl }
  next Idle (peer_says m) f = record { offered = offered; facts = f }
  next Idle (fault_met x) f = record { offered = offered; facts = f }
  next Idle moment_comes f = record { offered = offered; facts = f }
  next Idle link_ends f = record { offered = offered; facts = f }
  next OpenSent peer_opens f = record { offered = offered; facts = f }
  next OpenSent (peer_says (messages.Open p)) f = record { offered = offered; facts = (refl, refl, ap (λ n. min n p.hold) offered) }
  next OpenSent (peer_says (messages.Update u)) f = record { offered = offered; facts = refl }
  next OpenSent (peer_says (messages.Notification n)) f = record { offered = offered; facts = refl }
  next OpenSent (peer_says messages.KeepAlive) f = record { offered = offered; facts = refl }
  next OpenSent (fault_met x) f = record { offered = offered; facts = refl }
  next OpenSent moment_comes f =
      subst (λ n. Next now moment_comes (leads (session o OpenSent n hd sd) now moment_comes) said heard_ hold) (sym f) (record { offered = offered; facts = refl })
  next OpenSent link_ends f = record { offered = offered; facts = refl }
  next OpenConfirm peer_opens f = record { offered = offered; facts = f }
  next OpenConfirm (peer_says (messages.Open p)) f = record { offered = offered; facts = refl }
  next OpenConfirm (peer_says (messages.Update u)) f = record { offered = offered; facts = refl }
  next OpenConfirm (peer_says (messages.Notification n)) f = record { offered = offered; facts = refl }
  next OpenConfirm (peer_says messages.KeepAlive) f = record { offered = offered; facts = (f.0, refl, f.2) }
  next OpenConfirm (fault_met x) f = record { offered = offered; facts = refl }
  next OpenConfirm moment_comes f = passing OpenConfirm (λ n s t g. g) (λ s t g. g) f (h == 0) (is_over h hd now) (is_quiet h sd now)
  next OpenConfirm link_ends f = record { offered = offered; facts = refl }
  next Established peer_opens f = record { offered = offered; facts = f }
  next Established (peer_says (messages.Open p)) f = record { offered = offered; facts = refl }
  next Established (peer_says (messages.Update u)) f = record { offered = offered; facts = (f.0, refl, f.2) }
  next Established (peer_says (messages.Notification n)) f = record { offered = offered; facts = refl }
  next Established (peer_says messages.KeepAlive) f = record { offered = offered; facts = (f.0, refl, f.2) }
  next Established (fault_met x) f = record { offered = offered; facts = refl }
  next Established moment_comes f = passing Established (λ n s t g. g) (λ s t g. g) f (h == 0) (is_over h hd now) (is_quiet h sd now)
  next Established link_ends f = record { offered = offered; facts = refl }

pub all_kept : (our_as id : ℕ) (story : Story) → Keeps (session_of our_as id story) (last_said our_as id story) (last_heard story) (agreed story)
all_kept our_as id [] = record { offered = refl; facts = refl }
all_kept our_as id (h ∷ before) =
    let s = session_of our_as id before in
    let k = all_kept our_as id before in
    next s.ours s.hold s.heard s.said h.at (last_said our_as id before) (last_heard before) (agreed before) k.offered s.state h.what k.facts
