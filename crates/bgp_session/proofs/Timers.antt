-- What a moment leads to, by what can be seen of the story.
use Rattle.std.proofs.Common.{◌≡◌, ℕ, ◌*◌, ◌-◌, ◌<◌, ◌≤◌, Bool, true, false, cond, refl, sym, ap, ◌∙◌, subst, arith, inl, inr, ◌⊎◌}
use Rattle.std.specs.Prelude.{◌↔◌, nat_le, ◌==◌}
use Rattle.std.proofs.lemmas.Bool.Decides.{nat_tests}
use Rattle.net_base.specs.declared.numbers.Moment.{Moment}
use Rattle.bgp_messages.specs.declared.fault.Fault.TheVariants.{HoldTimerExpired}
use Rattle.bgp_messages.specs.declared.message.Open.{Open}
use Rattle.bgp_messages.specs.declared.said.Said.TheVariants as words
use Rattle.bgp_session.specs.declared.session.Session.{Session}
use Rattle.bgp_session.specs.declared.session.State.{State}
use Rattle.bgp_session.specs.declared.session.State.TheVariants.{Idle, OpenSent, OpenConfirm, Established}
use Rattle.bgp_session.specs.declared.step.Step.{Step}
use Rattle.bgp_session.specs.declared.step.Step.TheVariants.{Nothing, Say, Refuse}
use Rattle.bgp_session.specs.Sessions.{moment_comes, is_open, stays, refuses, is_over, is_quiet, leads}
use Rattle.bgp_session.specs.Stories.{Story, session_of, step_at, last_said, last_heard, agreed, Runs, IsOver, IsQuiet, at_moment}
use Rattle.bgp_session.proofs.Kept.{Facts, session, all_kept}

-- ---- a moment while timers may run

module _ (s : Session) (now : Moment) where
  abbrev tested : (none over quiet : Bool) → Step
  tested none over quiet = (cond none (stays s) (cond over (refuses s HoldTimerExpired) (cond quiet (record s { said = now }, Say words.KeepAlive) (stays s)))).1

  says : (a b c : Bool) → tested a b c ≡ Say words.KeepAlive → (a ≡ false) × (b ≡ false) × (c ≡ true)
  says true b c e = absurd (cc)
  says false true c e = absurd (cc)
  says false false true e = (refl, refl, refl)
  says false false false e = absurd (cc)

  says_then : (a b c : Bool) → a ≡ false → b ≡ false → c ≡ true → tested a b c ≡ Say words.KeepAlive
  says_then true b c p q r = absurd (cc)
  says_then false true c p q r = absurd (cc)
  says_then false false true p q r = refl
  says_then false false false p q r = absurd (cc)

  ends : (a b c : Bool) → tested a b c ≡ Refuse HoldTimerExpired → (a ≡ false) × (b ≡ true)
  ends true b c e = absurd (cc)
  ends false true c e = (refl, refl)
  ends false false true e = absurd (cc)
  ends false false false e = absurd (cc)

  ends_then : (a b c : Bool) → a ≡ false → b ≡ true → tested a b c ≡ Refuse HoldTimerExpired
  ends_then true b c p q = absurd (cc)
  ends_then false true c p q = refl
  ends_then false false c p q = absurd (cc)

some : (h : ℕ) → (h == 0) ≡ false → 0 < h
some h e = grind (arith, nat_tests, e)

some_then : (h : ℕ) → 0 < h → (h == 0) ≡ false
some_then h e = grind (arith, nat_tests, e)

over : (a b : ℕ) → nat_le a b ≡ true → a ≤ b
over a b e = grind (arith, nat_tests, e)

over_then : (a b : ℕ) → a ≤ b → nat_le a b ≡ true
over_then a b e = grind (arith, nat_tests, e)

not_over : (a b : ℕ) → nat_le a b ≡ false → a ≤ b → ⊥
not_over a b e h = grind (arith, nat_tests, e, h)

not_over_then : (a b : ℕ) → (a ≤ b → ⊥) → nat_le a b ≡ false
not_over_then a b h = by (nat_le a b) refl
  where
    by : (c : Bool) → nat_le a b ≡ c → nat_le a b ≡ false
    by true e = absurd (h (over a b e))
    by false e = e

-- ---- by the state

record Timers (ours : Open) (state : State) (h : ℕ) (hd sd now last_said_ last_heard_ : Moment) (hold : ℕ) : Type 0 where
  pub says_is : ((leads (session ours state h hd sd) now moment_comes).1 ≡ Say words.KeepAlive)
      ↔ (((state ≡ OpenConfirm) ⊎ (state ≡ Established)) × (0 < hold) × (hold * 1000 ≤ now.0 - last_heard_.0 → ⊥) × (hold * 1000 ≤ 3 * (now.0 - last_said_.0)))
  pub ends_is : ((leads (session ours state h hd sd) now moment_comes).1 ≡ Refuse HoldTimerExpired)
      ↔ (((state ≡ OpenConfirm) ⊎ (state ≡ Established)) × (0 < hold) × (hold * 1000 ≤ now.0 - last_heard_.0))

module _ (ours : Open) (h : ℕ) (hd sd now ls lh : Moment) (hold : ℕ) where
  in_time : (state : State) → ((state ≡ OpenConfirm) ⊎ (state ≡ Established)) → is_open state ≡ true
      → ((leads (session ours state h hd sd) now moment_comes).1 ≡ tested (session ours state h hd sd) now (h == 0) (is_over h hd now) (is_quiet h sd now))
      → (sd ≡ ls) × (hd ≡ lh) × (h ≡ hold) → Timers ours state h hd sd now ls lh hold
  in_time state on open_ same f =
      let s = session ours state h hd sd in
      let la = ap (λ (m : Moment). m.0) f.0 in
      let lb = ap (λ (m : Moment). m.0) f.1 in
      let lc = f.2 in
      record {
        says_is = (
          λ e. (
              let t = says s now (h == 0) (is_over h hd now) (is_quiet h sd now) (sym same ∙ e) in (
                on,
                subst (λ n. 0 < n) lc (some h t.0),
                (λ k. not_over (h * 1000) (now.0 - hd.0) t.1 (subst (λ n. n * 1000 ≤ now.0 - hd.0) (sym lc) (subst (λ m. hold * 1000 ≤ now.0 - m) (sym lb) k))),
                (let q : h * 1000 ≤ (now.0 - sd.0) * 3 = over (h * 1000) ((now.0 - sd.0) * 3) t.2 in
                    subst (λ m. hold * 1000 ≤ 3 * (now.0 - m)) la (subst (λ n. n * 1000 ≤ 3 * (now.0 - sd.0)) lc (omega (arith, q)))),
              )),
          λ t. same ∙ says_then s now (h == 0) (is_over h hd now) (is_quiet h sd now)
              (some_then h (subst (λ n. 0 < n) (sym lc) t.1))
              (not_over_then (h * 1000) (now.0 - hd.0) (λ k. t.2 (subst (λ m. hold * 1000 ≤ now.0 - m) lb (subst (λ n. n * 1000 ≤ now.0 - hd.0) lc k))))
              (over_then (h * 1000) ((now.0 - sd.0) * 3)
              (let q : h * 1000 ≤ 3 * (now.0 - sd.0) = subst (λ n. n * 1000 ≤ 3 * (now.0 - sd.0)) (sym lc) (subst (λ m. hold * 1000 ≤ 3 * (now.0 - m)) (sym la) t.3) in omega (arith, q))),
        );
        ends_is = (
          λ e. (
              let t = ends s now (h == 0) (is_over h hd now) (is_quiet h sd now) (sym same ∙ e) in (
                on,
                subst (λ n. 0 < n) lc (some h t.0),
                subst (λ m. hold * 1000 ≤ now.0 - m) lb (subst (λ n. n * 1000 ≤ now.0 - hd.0) lc (over (h * 1000) (now.0 - hd.0) t.1)),
              )),
          λ t. same ∙ ends_then s now (h == 0) (is_over h hd now) (is_quiet h sd now)
              (some_then h (subst (λ n. 0 < n) (sym lc) t.1))
              (over_then (h * 1000) (now.0 - hd.0) (subst (λ n. n * 1000 ≤ now.0 - hd.0) (sym lc) (subst (λ m. hold * 1000 ≤ now.0 - m) (sym lb) t.2))),
        );
      }

  -- no timer runs
  out_of_time : (state : State) → (((state ≡ OpenConfirm) ⊎ (state ≡ Established)) → ⊥) → (leads (session ours state h hd sd) now moment_comes).1 ≡ Nothing → Timers ours state h hd sd now ls lh hold
  out_of_time state off same = record {
    says_is = ((λ e. absurd (let q : Nothing ≡ Say words.KeepAlive = sym same ∙ e in cc)), λ t. absurd (off t.0));
    ends_is = ((λ e. absurd (let q : Nothing ≡ Refuse HoldTimerExpired = sym same ∙ e in cc)), λ t. absurd (off t.0));
  }

  silent_sent : h ≡ 0 → (leads (session ours OpenSent h hd sd) now moment_comes).1 ≡ Nothing
  silent_sent e = subst (λ n. (leads (session ours OpenSent n hd sd) now moment_comes).1 ≡ Nothing) (sym e) refl

  timers : (state : State) → Facts state (session ours state h hd sd) ls lh hold → Timers ours state h hd sd now ls lh hold
  timers Idle f = out_of_time Idle (λ on. elim on [ inl e ↦ cc | inr e ↦ cc ]) refl
  timers OpenSent f = out_of_time OpenSent (λ on. elim on [ inl e ↦ cc | inr e ↦ cc ]) (silent_sent f)
  timers OpenConfirm f = in_time OpenConfirm (inl refl) refl refl f
  timers Established f = in_time Established (inr refl) refl refl f

-- ---- of a story

story_timers : (our_as id : ℕ) (story : Story) (now : Moment) → let s = session_of our_as id story in
    Timers s.ours s.state s.hold s.heard s.said now (last_said our_as id story) (last_heard story) (agreed story)
story_timers our_as id story now =
    let s = session_of our_as id story in
    let k = all_kept our_as id story in
    timers s.ours s.hold s.heard s.said now (last_said our_as id story) (last_heard story) (agreed story) s.state k.facts

pub keepalive_in_time : (our_as id : ℕ) (story : Story) (now : Moment)
    → (step_at our_as id story (at_moment now) ≡ Say words.KeepAlive) ↔ (Runs our_as id story × (IsOver story now → ⊥) × IsQuiet our_as id story now)
keepalive_in_time our_as id story now =
    let t = story_timers our_as id story now in (
      λ e. (let p = t.says_is.0 e in (record { is_agreed = p.0; some = p.1 }, p.2, p.3)),
      λ p. t.says_is.1 (p.0.is_agreed, p.0.some, p.1, p.2),
    )

pub hold_is_over : (our_as id : ℕ) (story : Story) (now : Moment)
    → (step_at our_as id story (at_moment now) ≡ Refuse HoldTimerExpired) ↔ (Runs our_as id story × IsOver story now)
hold_is_over our_as id story now =
    let t = story_timers our_as id story now in (
      λ e. (let p = t.ends_is.0 e in (record { is_agreed = p.0; some = p.1 }, p.2)),
      λ p. t.ends_is.1 (p.0.is_agreed, p.0.some, p.1),
    )

sent_waits : (s : Session) (said heard_ now : Moment) (hold : ℕ) → Facts s.state s said heard_ hold → s.state ≡ OpenSent → (leads s now moment_comes).1 ≡ Nothing
sent_waits s said heard_ now hold f e = by s.state f e
  where
    by : (state : State) → Facts state s said heard_ hold → state ≡ OpenSent → (leads (session s.ours state s.hold s.heard s.said) now moment_comes).1 ≡ Nothing
    by Idle g q = refl
    by OpenSent g q = silent_sent s.ours s.hold s.heard s.said now said heard_ hold g
    by OpenConfirm g q = absurd (cc)
    by Established g q = absurd (cc)

pub waits_for_open : (our_as id : ℕ) (story : Story) (now : Moment) → (session_of our_as id story).state ≡ OpenSent → step_at our_as id story (at_moment now) ≡ Nothing
waits_for_open our_as id story now e =
    let k = all_kept our_as id story in
    sent_waits (session_of our_as id story) (last_said our_as id story) (last_heard story) now (agreed story) k.facts e
