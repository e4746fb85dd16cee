-- What a session says may be said.
use Rattle.std.proofs.Common.{◌≡◌, ◌≢◌, ℕ, ◌<◌, ◌^◌, Bool, true, false, cond, [], ◌∷◌, Some, refl, sym, subst, arith}
use Rattle.std.specs.Prelude.{◌==◌}
use Rattle.net_base.specs.declared.numbers.Moment.{Moment}
use Rattle.bgp_messages.specs.declared.fault.Fault.TheVariants.{HoldTimerExpired}
use Rattle.bgp_messages.specs.declared.message.Open.{Open}
use Rattle.bgp_messages.specs.declared.message.Message.TheVariants as messages
use Rattle.bgp_messages.specs.declared.said.Said.{Said}
use Rattle.bgp_messages.specs.declared.said.Said.TheVariants as words
use Rattle.bgp_messages.specs.Messages.{Spells}
use Rattle.bgp_messages.specs.Said.{written, message_of, IsOpening, MayBeSaid}
use Rattle.bgp_messages.proofs.MessageLaws.{said_back}
use Rattle.bgp_session.specs.declared.session.Session.{Session}
use Rattle.bgp_session.specs.declared.session.State.{State}
use Rattle.bgp_session.specs.declared.session.State.TheVariants.{Idle, OpenSent, OpenConfirm, Established}
use Rattle.bgp_session.specs.declared.step.Step.{Step}
use Rattle.bgp_session.specs.declared.step.Step.TheVariants.{Nothing, Say, Refuse, Told}
use Rattle.bgp_session.specs.Sessions.{Event, peer_opens, peer_says, fault_met, moment_comes, link_ends, said_of, stays, refuses, is_over, is_quiet, leads}
use Rattle.bgp_session.specs.Stories.{Happened, Story, session_of, step_at}
use Rattle.bgp_session.proofs.Kept.{session}

-- the OPEN stays as it was, and what is said may be
abbrev pub SaysWell : (peer : ℕ) → Step → Type 0
SaysWell peer Nothing = Unit {0}
SaysWell peer (Say said) = MayBeSaid peer said
SaysWell peer (Refuse fault) = Unit {0}
SaysWell peer (Told notification) = Unit {0}

pub record Well (peer : ℕ) (o : Open) (r : Session × Step) : Type 0 where
  pub ours : r.0.ours ≡ o
  pub says : SaysWell peer r.1

module _ (peer : ℕ) (o : Open) (may : IsOpening peer o) (h : ℕ) (hd sd now : Moment) where
  passing : (st : State) (a b c : Bool) → let s = session o st h hd sd in
      Well peer o (cond a (stays s) (cond b (refuses s HoldTimerExpired) (cond c (record s { said = now }, Say words.KeepAlive) (stays s))))
  passing st true b c = record { ours = refl; says = tt }
  passing st false true c = record { ours = refl; says = tt }
  passing st false false true = record { ours = refl; says = tt }
  passing st false false false = record { ours = refl; says = tt }

  next : (st : State) (e : Event) → Well peer o (leads (session o st h hd sd) now e)
  next Idle peer_opens = record { ours = refl; says = may }
  next Idle (peer_says m) = record { ours = refl; says = tt }
  next Idle (fault_met x) = record { ours = refl; says = tt }
  next Idle moment_comes = record { ours = refl; says = tt }
  next Idle link_ends = record { ours = refl; says = tt }
  next OpenSent peer_opens = record { ours = refl; says = tt }
  next OpenSent (peer_says (messages.Open p)) = record { ours = refl; says = tt }
  next OpenSent (peer_says (messages.Update u)) = record { ours = refl; says = tt }
  next OpenSent (peer_says (messages.Notification n)) = record { ours = refl; says = tt }
  next OpenSent (peer_says messages.KeepAlive) = record { ours = refl; says = tt }
  next OpenSent (fault_met x) = record { ours = refl; says = tt }
  next OpenSent moment_comes = passing OpenSent (h == 0) (is_over h hd now) (is_quiet h sd now)
  next OpenSent link_ends = record { ours = refl; says = tt }
  next OpenConfirm peer_opens = record { ours = refl; says = tt }
  next OpenConfirm (peer_says (messages.Open p)) = record { ours = refl; says = tt }
  next OpenConfirm (peer_says (messages.Update u)) = record { ours = refl; says = tt }
  next OpenConfirm (peer_says (messages.Notification n)) = record { ours = refl; says = tt }
  next OpenConfirm (peer_says messages.KeepAlive) = record { ours = refl; says = tt }
  next OpenConfirm (fault_met x) = record { ours = refl; says = tt }
  next OpenConfirm moment_comes = passing OpenConfirm (h == 0) (is_over h hd now) (is_quiet h sd now)
  next OpenConfirm link_ends = record { ours = refl; says = tt }
  next Established peer_opens = record { ours = refl; says = tt }
  next Established (peer_says (messages.Open p)) = record { ours = refl; says = tt }
  next Established (peer_says (messages.Update u)) = record { ours = refl; says = tt }
  next Established (peer_says (messages.Notification n)) = record { ours = refl; says = tt }
  next Established (peer_says messages.KeepAlive) = record { ours = refl; says = tt }
  next Established (fault_met x) = record { ours = refl; says = tt }
  next Established moment_comes = passing Established (h == 0) (is_over h hd now) (is_quiet h sd now)
  next Established link_ends = record { ours = refl; says = tt }

of_step : (peer : ℕ) (step : Step) (said : Said) → SaysWell peer step → said_of step ≡ Some said → MayBeSaid peer said
of_step peer Nothing said w e = absurd (cc)
of_step peer (Say m) said w e = let q : m ≡ said = cc in subst (MayBeSaid peer) q w
of_step peer (Refuse fault) said w e = let q : words.Notification fault ≡ said = cc in subst (MayBeSaid peer) q tt
of_step peer (Told notification) said w e = absurd (cc)

module _ (our_as id : ℕ) (as_fits : our_as < 2 ^ 16) (id_fits : id < 2 ^ 32) (some : id ≢ 0) where
  abbrev pub ours : Open
  ours = record { sender_as = our_as; hold = 90; id = id }

  may_open : IsOpening our_as ours
  may_open = record {
    sender_as = refl;
    as_fits = as_fits;
    hold_fits = omega arith;
    id_fits = id_fits;
    id = some;
    not_one = λ e. omega (arith, e);
    not_two = λ e. omega (arith, e);
  }

  pub step_well : (s : Session) (now : Moment) (e : Event) → s.ours ≡ ours → Well our_as ours (leads s now e)
  step_well s now e same =
      let f = λ (o : Open). Well our_as ours (leads (session o s.state s.hold s.heard s.said) now e) in
      subst f (sym same) (next our_as ours may_open s.hold s.heard s.said now s.state e)

  kept : (story : Story) → (session_of our_as id story).ours ≡ ours
  kept [] = refl
  kept (h ∷ before) = (step_well (session_of our_as id before) h.at h.what (kept before)).ours

  pub said_is_read : (story : Story) (h : Happened) (said : Said) → said_of (step_at our_as id story h) ≡ Some said → Spells our_as (message_of said) (written said)
  said_is_read story h said e =
      let w = step_well (session_of our_as id story) h.at h.what (kept story) in
      said_back our_as said (of_step our_as (step_at our_as id story h) said w.says e)
