-- What a moment says.
use Rattle.std.proofs.Common.{◌≡◌, ℕ, ◌*◌, ◌-◌, ◌<◌, ◌≤◌, Bool, true, false, cond, List, [], ◌∷◌, ◌++◌, length, Option, Some, None, refl, sym, ap, ◌∙◌, subst, arith}
use Rattle.std.specs.Prelude.{◌↔◌, ◌==◌, nat_le, max}
use Rattle.std.specs.Option.{option_map_or}
use Rattle.std.proofs.lemmas.Bool.Decides.{nat_tests}
use Rattle.fg_outside.specs.declared.hub.Happening.TheVariants.{Moment as Shown}
use Rattle.bgp_messages.specs.declared.fault.Fault.TheVariants.{HoldTimerExpired}
use Rattle.bgp_messages.specs.declared.said.Said.TheVariants as words
use Rattle.bgp_session.specs.declared.session.State.TheVariants.{OpenSent}
use Rattle.bgp_session.specs.declared.step.Step.TheVariants.{Say}
use Rattle.bgp_session.specs.Sessions.{moment_comes, stays, refuses, is_over, is_quiet}
use Rattle.bgp_peer.specs.declared.peer.Peer.{Peer}
use Rattle.bgp_peer.specs.declared.peer.Peering.{Peering}
use Rattle.bgp_peer.specs.declared.saying.BgpSaying.{BgpSaying}
use Rattle.bgp_peer.specs.declared.saying.BgpSaying.TheVariants.{Close}
use Rattle.bgp_peer.specs.Sayings.{sends, refusal}
use Rattle.bgp_peer.specs.Peers.{stepped, takes}
use Rattle.bgp_peer.specs.Turns.{at_moment, anew}
use Rattle.bgp_peer.specs.Stories.{Story, behind, peer_behind, said_at, moment_of, last_said, IsDue, IsLate}
use Rattle.bgp_peer.proofs.Led.{moment_leads}
use Rattle.bgp_peer.proofs.Sound.{Connected, IsOpened}
use Rattle.bgp_peer.proofs.Behind.{holds}

-- ---- a moment in an open session, by its tests: no hold time, over, quiet

module _ (conn : ℕ) (p : Peer) (silent : p.said ≡ []) where
  abbrev tested : (none over quiet : Bool) → List BgpSaying
  tested none over quiet =
      (stepped conn (cond none (stays p.session) (cond over (refuses p.session HoldTimerExpired)
      (cond quiet (record p.session { said = p.moment }, Say words.KeepAlive) (stays p.session)))) p).said

  abbrev Alive : List BgpSaying → Type 0
  Alive sayings = sayings ≡ sends conn words.KeepAlive ∷ []

  nothing : Alive p.said → ⊥
  nothing e = let f : [] ≡ sends conn words.KeepAlive ∷ [] = sym silent ∙ e in cc

  two : (a b : BgpSaying) → Alive ((p.said ++ a ∷ []) ++ b ∷ []) → ⊥
  two a b e =
      let f : 2 ≡ 1 = ap (λ l. length ((l ++ a ∷ []) ++ b ∷ [])) (sym silent) ∙ ap length e in
      omega (arith, f)

  says : (a b c : Bool) → Alive (tested a b c) → (a ≡ false) × (b ≡ false) × (c ≡ true)
  says true b c e = absurd (nothing e)
  says false true c e = absurd (two (sends conn (words.Notification HoldTimerExpired)) (Close conn (refusal HoldTimerExpired)) e)
  says false false true e = (refl, refl, refl)
  says false false false e = absurd (nothing e)

  says_then : (a b c : Bool) → a ≡ false → b ≡ false → c ≡ true → Alive (tested a b c)
  says_then true b c x y z = absurd (cc)
  says_then false true c x y z = absurd (cc)
  says_then false false true x y z = ap (λ l. l ++ sends conn words.KeepAlive ∷ []) silent
  says_then false false false x y z = absurd (cc)

  abbrev Ended : List BgpSaying → Type 0
  Ended sayings = sayings ≡ sends conn (words.Notification HoldTimerExpired) ∷ Close conn (refusal HoldTimerExpired) ∷ []

  not_two : (l : List BgpSaying) → length l < 2 → Ended l → ⊥
  not_two l few e = omega (arith, few, ap length e)

  nothing_said : Ended p.said → ⊥
  nothing_said e = let none : length p.said ≡ 0 = ap length silent in not_two p.said (omega (arith, none)) e

  one_said : (a : BgpSaying) → Ended (p.said ++ a ∷ []) → ⊥
  one_said a e = let one : length (p.said ++ a ∷ []) ≡ 1 = ap (λ l. length (l ++ a ∷ [])) silent in not_two (p.said ++ a ∷ []) (omega (arith, one)) e

  ends : (a b c : Bool) → Ended (tested a b c) → (a ≡ false) × (b ≡ true)
  ends true b c e = absurd (nothing_said e)
  ends false true c e = (refl, refl)
  ends false false true e = absurd (one_said (sends conn words.KeepAlive) e)
  ends false false false e = absurd (nothing_said e)

  ends_then : (a b c : Bool) → a ≡ false → b ≡ true → Ended (tested a b c)
  ends_then true b c x y = absurd (cc)
  ends_then false true c x y = ap (λ l. (l ++ sends conn (words.Notification HoldTimerExpired) ∷ []) ++ Close conn (refusal HoldTimerExpired) ∷ []) silent
  ends_then false false c x y = absurd (cc)

-- ---- behind a story

module _ (peering : Peering) (story : Story) (moment : ℕ) where
  -- the peer as the clock shows the moment
  abbrev at_it : Peer
  at_it = at_moment moment (anew (behind peering story)).peer

  said_then : (conn : ℕ) → (peer_behind peering story).conn ≡ Some conn → said_at peering story (Shown moment) ≡ (takes conn moment_comes at_it).said
  said_then conn e = ap (λ o. (option_map_or (λ c. takes c moment_comes at_it) o at_it).said) e

  opened : (conn : ℕ) → (peer_behind peering story).conn ≡ Some conn → IsOpened (moment_of story) (λ c. last_said peering c story) conn (peer_behind peering story).session []
  opened conn e = subst (λ o. Connected (moment_of story) (λ c. last_said peering c story) o (peer_behind peering story).session []) e (holds peering story).connected

  module _ (conn : ℕ) (e : (peer_behind peering story).conn ≡ Some conn) where
    hold : ℕ
    hold = (peer_behind peering story).session.hold

    by_tests : said_at peering story (Shown moment)
        ≡ tested conn at_it refl (at_it.session.hold == 0) (is_over at_it.session.hold at_it.session.heard at_it.moment) (is_quiet at_it.session.hold at_it.session.said at_it.moment)
    by_tests = said_then conn e ∙ ap (λ next. (stepped conn next at_it).said) (moment_leads at_it.session at_it.moment (opened conn e).opened)

    clock : at_it.moment.0 ≡ moment_of (Shown moment ∷ story)
    clock = ap (λ n. max n moment) (holds peering story).clock

    last : at_it.session.said.0 ≡ last_said peering conn story
    last = (opened conn e).said_last

    due : said_at peering story (Shown moment) ≡ sends conn words.KeepAlive ∷ [] → IsDue peering conn story moment
    due so =
        let h = at_it.session.hold in
        let t = says conn at_it refl (h == 0) (is_over h at_it.session.heard at_it.moment) (is_quiet h at_it.session.said at_it.moment) (sym by_tests ∙ so) in
        let some : 0 < h = grind (arith, nat_tests, t.0) in
        let late : (h * 1000 ≤ at_it.moment.0 - at_it.session.heard.0) → ⊥ = λ k. grind (arith, nat_tests, t.1, k) in
        let quiet : h * 1000 ≤ (at_it.moment.0 - at_it.session.said.0) * 3 = grind (arith, nat_tests, t.2) in
        let three : h * 1000 ≤ 3 * (at_it.moment.0 - at_it.session.said.0) = omega (arith, quiet) in
        record {
          runs = some;
          in_time = subst (λ n. (h * 1000 ≤ n - at_it.session.heard.0) → ⊥) clock late;
          quiet = subst (λ n. h * 1000 ≤ 3 * (moment_of (Shown moment ∷ story) - n)) last (subst (λ n. h * 1000 ≤ 3 * (n - at_it.session.said.0)) clock three);
        }

    due_then : IsDue peering conn story moment → said_at peering story (Shown moment) ≡ sends conn words.KeepAlive ∷ []
    due_then d =
        let h = at_it.session.hold in
        let none : (h == 0) ≡ false = (let r : 0 < h = d.runs in grind (arith, nat_tests, r)) in
        let late : (h * 1000 ≤ at_it.moment.0 - at_it.session.heard.0) → ⊥ = subst (λ n. (h * 1000 ≤ n - at_it.session.heard.0) → ⊥) (sym clock) d.in_time in
        let over : is_over h at_it.session.heard at_it.moment ≡ false = not_then (h * 1000) (at_it.moment.0 - at_it.session.heard.0) late in
        let three : h * 1000 ≤ 3 * (at_it.moment.0 - at_it.session.said.0) =
        subst (λ n. h * 1000 ≤ 3 * (n - at_it.session.said.0)) (sym clock) (subst (λ n. h * 1000 ≤ 3 * (moment_of (Shown moment ∷ story) - n)) (sym last) d.quiet) in
        let times : h * 1000 ≤ (at_it.moment.0 - at_it.session.said.0) * 3 = omega (arith, three) in
        let quiet : is_quiet h at_it.session.said at_it.moment ≡ true = grind (arith, nat_tests, times) in
        by_tests ∙ says_then conn at_it refl (h == 0) (is_over h at_it.session.heard at_it.moment) (is_quiet h at_it.session.said at_it.moment) none over quiet
      where
        not_then : (a b : ℕ) → (a ≤ b → ⊥) → nat_le a b ≡ false
        not_then a b n = by (nat_le a b) refl
          where
            by : (c : Bool) → nat_le a b ≡ c → nat_le a b ≡ false
            by true q = absurd (n (grind (arith, nat_tests, q)))
            by false q = q

    late : said_at peering story (Shown moment) ≡ sends conn (words.Notification HoldTimerExpired) ∷ Close conn (refusal HoldTimerExpired) ∷ [] → IsLate peering story moment
    late so =
        let h = at_it.session.hold in
        let t = ends conn at_it refl (h == 0) (is_over h at_it.session.heard at_it.moment) (is_quiet h at_it.session.said at_it.moment) (sym by_tests ∙ so) in
        let some : 0 < h = grind (arith, nat_tests, t.0) in
        let over : h * 1000 ≤ at_it.moment.0 - at_it.session.heard.0 = grind (arith, nat_tests, t.1) in
        record { runs = some; over = subst (λ n. h * 1000 ≤ n - at_it.session.heard.0) clock over }

    late_then : IsLate peering story moment → said_at peering story (Shown moment) ≡ sends conn (words.Notification HoldTimerExpired) ∷ Close conn (refusal HoldTimerExpired) ∷ []
    late_then d =
        let h = at_it.session.hold in
        let none : (h == 0) ≡ false = (let r : 0 < h = d.runs in grind (arith, nat_tests, r)) in
        let past : h * 1000 ≤ at_it.moment.0 - at_it.session.heard.0 = subst (λ n. h * 1000 ≤ n - at_it.session.heard.0) (sym clock) d.over in
        let over : is_over h at_it.session.heard at_it.moment ≡ true = grind (arith, nat_tests, past) in
        by_tests ∙ ends_then conn at_it refl (h == 0) (is_over h at_it.session.heard at_it.moment) (is_quiet h at_it.session.said at_it.moment) none over

    pub ended : (said_at peering story (Shown moment) ≡ sends conn (words.Notification HoldTimerExpired) ∷ Close conn (refusal HoldTimerExpired) ∷ []) ↔ IsLate peering story moment
    ended = (late, late_then)

    pub in_time : (said_at peering story (Shown moment) ≡ sends conn words.KeepAlive ∷ []) ↔ IsDue peering conn story moment
    in_time = (due, due_then)

  -- ---- before the peer's OPEN

  pub waits : (peer_behind peering story).session.state ≡ OpenSent → said_at peering story (Shown moment) ≡ []
  waits st = by (peer_behind peering story).conn refl
    where
      silent : (conn : ℕ) → (e : (peer_behind peering story).conn ≡ Some conn) → said_at peering story (Shown moment) ≡ []
      silent conn e =
          let none : (at_it.session.hold == 0) ≡ true = ap (λ n. n == 0) ((opened conn e).waits st) in
          by_tests conn e ∙ ap (λ b. tested conn at_it refl b (is_over at_it.session.hold at_it.session.heard at_it.moment) (is_quiet at_it.session.hold at_it.session.said at_it.moment)) none

      by : (o : Option ℕ) → (peer_behind peering story).conn ≡ o → said_at peering story (Shown moment) ≡ []
      by None e = ap (λ o. (option_map_or (λ c. takes c moment_comes at_it) o at_it).said) e
      by (Some conn) e = silent conn e
