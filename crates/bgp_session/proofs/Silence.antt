-- Behind a moment nothing is silent.
use Rattle.std.proofs.Common.{◌≡◌, ℕ, ◌*◌, ◌-◌, ◌<◌, ◌≤◌, Bool, true, false, cond, ◌∷◌, Option, Some, None, refl, sym, ap, ◌∙◌, arith, inl, inr, ◌⊎◌}
use Rattle.std.specs.Prelude.{◌==◌}
use Rattle.net_base.specs.declared.numbers.Moment.{Moment}
use Rattle.bgp_messages.specs.declared.fault.Fault.TheVariants.{HoldTimerExpired}
use Rattle.bgp_messages.specs.declared.message.Open.{Open}
use Rattle.bgp_messages.specs.declared.said.Said.{Said}
use Rattle.bgp_messages.specs.declared.said.Said.TheVariants as words
use Rattle.bgp_session.specs.declared.session.State.{State}
use Rattle.bgp_session.specs.declared.session.State.TheVariants.{Idle, OpenSent, OpenConfirm, Established}
use Rattle.bgp_session.specs.declared.step.Step.TheVariants.{Say}
use Rattle.bgp_session.specs.Sessions.{moment_comes, said_of, stays, refuses, is_over, is_quiet, leads}
use Rattle.bgp_session.specs.Stories.{Story, session_of, step_at, said_or, last_said, agreed, Runs, IsOver, IsQuiet, at_moment}
use Rattle.bgp_session.proofs.Kept.{session}
use Rattle.bgp_session.proofs.Closing.{is_the_end}
use Rattle.bgp_session.proofs.Timers.{keepalive_in_time, hold_is_over}

abbrev On : State → Type 0
On state = (state ≡ OpenConfirm) ⊎ (state ≡ Established)

not_idle : On Idle → ⊥
not_idle on = elim on [ inl e ↦ cc | inr e ↦ cc ]

not_sent : On OpenSent → ⊥
not_sent on = elim on [ inl e ↦ cc | inr e ↦ cc ]

-- a moment brings no session on
module _ (o : Open) (h : ℕ) (hd sd now : Moment) where
  passing : (a b c : Bool) → let s = session o OpenSent h hd sd in
      On (cond a (stays s) (cond b (refuses s HoldTimerExpired) (cond c (record s { said = now }, Say words.KeepAlive) (stays s)))).0.state → ⊥
  passing true b c on = not_sent on
  passing false true c on = not_idle on
  passing false false true on = not_sent on
  passing false false false on = not_sent on

  was_on : (st : State) → On (leads (session o st h hd sd) now moment_comes).0.state → On st
  was_on Idle on = absurd (not_idle on)
  was_on OpenSent on = absurd (passing (h == 0) (is_over h hd now) (is_quiet h sd now) on)
  was_on OpenConfirm on = inl refl
  was_on Established on = inr refl

module _ (our_as id : ℕ) (story : Story) (now : Moment) (runs : Runs our_as id (at_moment now ∷ story)) where
  ran : Runs our_as id story
  ran = let s = session_of our_as id story in record { is_agreed = was_on s.ours s.hold s.heard s.said now s.state runs.is_agreed; some = runs.some }

  pub not_over : IsOver (at_moment now ∷ story) now → ⊥
  not_over over =
      let e = (hold_is_over our_as id story now).1 (ran, over) in
      let idle = is_the_end (session_of our_as id story) now moment_comes HoldTimerExpired e in
      gone (leads (session_of our_as id story) now moment_comes).0.state runs.is_agreed idle
    where
      gone : (st : State) → On st → st ≡ Idle → ⊥
      gone Idle on e = not_idle on
      gone OpenSent on e = cc
      gone OpenConfirm on e = cc
      gone Established on e = cc

  pub not_quiet : IsQuiet our_as id (at_moment now ∷ story) now → ⊥
  not_quiet quiet = by (said_of (step_at our_as id story (at_moment now))) refl quiet
    where
      by : (said : Option Said) → said_of (step_at our_as id story (at_moment now)) ≡ said
          → agreed story * 1000 ≤ 3 * (now.0 - (said_or said now (last_said our_as id story)).0) → ⊥
      by None e q =
          let says = (keepalive_in_time our_as id story now).1 (ran, not_over, q) in
          let f : None ≡ Some words.KeepAlive = sym e ∙ ap said_of says in cc
      by (Some said) e q = let some : 0 < agreed story = runs.some in omega (arith, q, some)
