-- How often a poller is told that no byte has come on a link, between two states of a hub.
use Rattle.std.proofs.Common.{◌≡◌, ◌≢◌, ◌⊎◌, ℕ, ◌+◌, ◌<◌, ◌≤◌, List, [], ◌∷◌, ◌++◌, Option, Some, None, refl, sym, ◌∙◌, ap, subst, inl, inr, arith}
use Rattle.std.proofs.lemmas.Bool.{cases_eq}
use Rattle.std.proofs.lemmas.Grind.{common_steps}
use Rattle.std.proofs.lemmas.List.Sums.{sum_by-append}
use Rattle.fg_outside.specs.HubStep.{HubStep, Event, story, Leads}
use Rattle.fg_links.specs.declared.link.Link as link
use Rattle.fg_links.specs.declared.poller.Poller as poller
use Rattle.fg_links.specs.declared.told.Told.{Told}
use Rattle.fg_links.specs.declared.told.Told.TheVariants.{Quiet, Gone}
use Rattle.fg_links.specs.Calls.{Appends}
use Rattle.link_hub.specs.declared.hub.LinkHub.{LinkHub}
use Rattle.link_hub.specs.declared.live.Live.{Live}
use Rattle.link_hub.specs.Hub.{live_at, IsSet, IsFresh, LinkStep}
use Rattle.link_hub.specs.Runs.{quiet_by, quiet_count, IsCounted, TellsQuiet}
use Rattle.link_hub.proofs.ChangeLemmas.{appends_same, Reads, read_later, read_some, Change, unchanged, moved, let_go, taken, dropped, Changes-keep, run_changes}
use Rattle.link_hub.proofs.GoneLemmas.{appends_then}
use Rattle.link_hub.proofs.RunLemmas.{some_same, none_some, given_grows, known_then, opened_same, run_keeps}

quiet_one : (conn : ℕ) → quiet_count conn (Quiet conn ∷ []) ≡ 1
quiet_one conn = grind (arith, common_steps)

quiet_other : (link conn : ℕ) → conn ≢ link → quiet_count conn (Quiet link ∷ []) ≡ 0
quiet_other link conn ne = grind (arith, common_steps, ne)

none_counted : (count : ℕ) → IsCounted 0 count count
none_counted count = record { still = λ _. refl; rose = omega arith }

counted_then : (m n a b c : ℕ) → IsCounted m a b → IsCounted n b c → IsCounted (m + n) a c
counted_then m n a b c first second = record {
  still = λ zero. second.still (omega (arith, zero)) ∙ first.still (omega (arith, zero));
  rose = omega (arith, first.rose, second.rose);
}

either : {A : Type 0} (o : Option A) → (o ≡ None) ⊎ ((a : A) × (o ≡ Some a))
either None = inl refl
either (Some a) = inr (a, refl)

module _ {P L : Type 0} (it : link.Ghosts L) (p : poller.Ghosts P L) where
  -- an open link behind a change: it was open, or it opened, and the calls are of it as its reads say
  data Fate (calls : List Told) (old : LinkHub P L) (conn : ℕ) (now : Live L) : Type 0 where
    stayed : (was : Live L) → live_at old conn ≡ Some was → now.opened ≡ was.opened → IsCounted (quiet_count conn calls) (it.unread was.link) (it.unread now.link) → Fate calls old conn now
    opened : old.given < conn → now.opened.value ≡ now.link → quiet_count conn calls ≡ 0 → Fate calls old conn now

  record Hints (old new : LinkHub P L) : Type 0 where
    pub calls : List Told
    pub tells : Appends (p.told old.poller) calls (p.told new.poller)
    pub fate : (conn : ℕ) (now : Live L) → live_at new conn ≡ Some now → Fate calls old conn now
    pub none : (conn : ℕ) → live_at old conn ≡ None → quiet_count conn calls ≡ 0

  untouched : (calls : List Told) (old : LinkHub P L) (conn : ℕ) (now : Live L) → live_at old conn ≡ Some now → quiet_count conn calls ≡ 0 → Fate calls old conn now
  untouched calls old conn now found zero = stayed now found refl (subst (λ n. IsCounted n (it.unread now.link) (it.unread now.link)) (sym zero) (none_counted (it.unread now.link)))

  reads_counted : (conn : ℕ) (was now : Live L) (calls : List Told) → Reads it p conn was now calls → IsCounted (quiet_count conn calls) (it.unread was.link) (it.unread now.link)
  reads_counted conn was now _ (read_later rose) = record { still = λ zero. absurd (omega (arith, zero, quiet_one conn)); rose = omega (arith, rose, quiet_one conn) }
  reads_counted conn was now _ (read_some same) = record { still = λ _. same; rose = omega (arith, same) }

  reads_other : (link conn : ℕ) (was now : Live L) (calls : List Told) → conn ≢ link → Reads it p link was now calls → quiet_count conn calls ≡ 0
  reads_other link conn was now _ ne (read_later rose) = quiet_other link conn ne
  reads_other link conn was now _ ne (read_some same) = refl

  moved_fate : (calls : List Told) (old new : LinkHub P L) (c : ℕ) (was then_ : Live L) → live_at old c ≡ Some was → IsSet c (Some then_) old.live new.live → then_.opened ≡ was.opened → Reads it p c was then_ calls → (conn : ℕ) (now : Live L) → live_at new conn ≡ Some now → (conn ≡ c) ⊎ (conn ≢ c) → Fate calls old conn now
  moved_fate calls old new c was then_ found set kept read conn now is (inl e) =
      let same : now ≡ then_ = some_same then_ now (live_at new c) set.here (ap (λ n. live_at new n) (sym e) ∙ is) in
      subst (λ n. Fate calls old n now) (sym e) (subst (λ (l : Live L). Fate calls old c l) (sym same) (stayed was found kept (reads_counted c was then_ calls read)))
  moved_fate calls old new c was then_ found set kept read conn now is (inr ne) = untouched calls old conn now (sym (set.elsewhere conn ne) ∙ is) (reads_other c conn was then_ calls ne read)

  gone_fate : (old new : LinkHub P L) (c : ℕ) → IsSet c None old.live new.live → (conn : ℕ) (now : Live L) → live_at new conn ≡ Some now → (conn ≡ c) ⊎ (conn ≢ c) → Fate (Gone c ∷ []) old conn now
  gone_fate old new c set conn now is (inl e) = absurd (none_some now (live_at new c) set.here (ap (λ n. live_at new n) (sym e) ∙ is))
  gone_fate old new c set conn now is (inr ne) = untouched (Gone c ∷ []) old conn now (sym (set.elsewhere conn ne) ∙ is) refl

  opened_fate : (old new : LinkHub P L) (c : ℕ) (then_ : Live L) → IsSet c (Some then_) old.live new.live → then_.opened.value ≡ then_.link → c ≡ old.given + 1 → (conn : ℕ) (now : Live L) → live_at new conn ≡ Some now → (conn ≡ c) ⊎ (conn ≢ c) → Fate [] old conn now
  opened_fate old new c then_ set fresh number conn now is (inl e) =
      let same : now ≡ then_ = some_same then_ now (live_at new c) set.here (ap (λ n. live_at new n) (sym e) ∙ is) in
      opened (omega (arith, e, number)) (subst (λ (l : Live L). l.opened.value ≡ l.link) (sym same) fresh) refl
  opened_fate old new c then_ set fresh number conn now is (inr ne) = untouched [] old conn now (sym (set.elsewhere conn ne) ∙ is) refl

  hints_of : (more : List Event) (old new : LinkHub P L) → Change it p more old new → Hints old new
  hints_of more old new (unchanged live given told silent) = record {
    calls = [];
    tells = appends_same (p.told old.poller) (p.told new.poller) told;
    fate = λ conn now is. untouched [] old conn now (sym (live conn) ∙ is) refl;
    none = λ _ _. refl;
  }
  hints_of more old new (moved c was then_ calls found set given told read m silent) = record {
    calls = calls;
    tells = told;
    fate = λ conn now is. moved_fate calls old new c was then_ found set m.sends.opened read conn now is (cases_eq conn c);
    none = λ conn is. reads_other c conn was then_ calls (λ e. absurd (none_some was (live_at old c) (ap (λ n. live_at old n) (sym e) ∙ is) found)) read;
  }
  hints_of more old new (let_go c was found set given told silent) = record {
    calls = Gone c ∷ [];
    tells = told;
    fate = λ conn now is. gone_fate old new c set conn now is (cases_eq conn c);
    none = λ _ _. refl;
  }
  hints_of more old new (taken c came then_ fresh set number given told event) = record {
    calls = [];
    tells = appends_same (p.told old.poller) (p.told new.poller) told;
    fate = λ conn now is. opened_fate old new c then_ set (fresh.opened ∙ sym fresh.link) number conn now is (cases_eq conn c);
    none = λ _ _. refl;
  }
  hints_of more old new (dropped live given told silent) = record {
    calls = Gone (old.given + 1) ∷ [];
    tells = told;
    fate = λ conn now is. untouched (Gone (old.given + 1) ∷ []) old conn now (sym (live conn) ∙ is) refl;
    none = λ _ _. refl;
  }

  module _ (from : LinkHub P L) where
    -- what holds of a hub that came of one whose open links have numbers that were given
    record Quiets (hub : LinkHub P L) (events : List Event) : Type 0 where
      pub calls : List Told
      pub tells : Appends (p.told from.poller) calls (p.told hub.poller)
      pub stay : (conn : ℕ) (was now : Live L) → live_at from conn ≡ Some was → live_at hub conn ≡ Some now → IsCounted (quiet_count conn calls) (it.unread was.link) (it.unread now.link)
      pub open_ : (conn : ℕ) (now : Live L) → live_at from conn ≡ None → live_at hub conn ≡ Some now → (from.given < conn) × IsCounted (quiet_count conn calls) (it.unread now.opened.value) (it.unread now.link)
      pub over : (conn : ℕ) → live_at from conn ≡ None → conn ≤ from.given → quiet_count conn calls ≡ 0
      pub none : (conn : ℕ) → hub.given < conn → quiet_count conn calls ≡ 0
      pub known : (conn : ℕ) (now : Live L) → live_at hub conn ≡ Some now → conn ≤ hub.given
      pub given : from.given ≤ hub.given

    both : (conn : ℕ) (xs ys : List Told) → quiet_count conn (xs ++ ys) ≡ quiet_count conn xs + quiet_count conn ys
    both conn xs ys = sum_by-append (quiet_by conn) xs ys

    joined : (conn : ℕ) (xs ys : List Told) (a b c : ℕ) → IsCounted (quiet_count conn xs) a b → IsCounted (quiet_count conn ys) b c → IsCounted (quiet_count conn (xs ++ ys)) a c
    joined conn xs ys a b c first second = subst (λ n. IsCounted n a c) (sym (both conn xs ys)) (counted_then (quiet_count conn xs) (quiet_count conn ys) a b c first second)

    -- nothing was told of what isn't open
    none_yet : (hub : LinkHub P L) (events : List Event) → Quiets hub events → (conn : ℕ) → live_at from conn ≡ None → conn ≤ from.given → (live_at hub conn ≡ None) ⊎ ((now : Live L) × (live_at hub conn ≡ Some now)) → live_at hub conn ≡ None
    none_yet hub events q conn was le (inl is) = is
    none_yet hub events q conn was le (inr h) = absurd (let above = (q.open_ conn h.0 was h.1).0 in omega (arith, above, le))

    above_is : (hub : LinkHub P L) → ((conn : ℕ) (now : Live L) → live_at hub conn ≡ Some now → conn ≤ hub.given) → (conn : ℕ) → hub.given < conn → (live_at hub conn ≡ None) ⊎ ((now : Live L) × (live_at hub conn ≡ Some now)) → live_at hub conn ≡ None
    above_is hub known conn above (inl is) = is
    above_is hub known conn above (inr h) = absurd (let within = known conn h.0 h.1 in omega (arith, above, within))

    stay_then : (hub : LinkHub P L) (events : List Event) (more : List Told) (q : Quiets hub events) (conn : ℕ) (was now : Live L) → live_at from conn ≡ Some was → conn ≤ from.given → Fate more hub conn now → IsCounted (quiet_count conn (q.calls ++ more)) (it.unread was.link) (it.unread now.link)
    stay_then hub events more q conn was now found le (stayed mid here kept counted) = joined conn q.calls more (it.unread was.link) (it.unread mid.link) (it.unread now.link) (q.stay conn was mid found here) counted
    stay_then hub events more q conn was now found le (opened above fresh zero) = absurd (let grown = q.given in omega (arith, above, le, grown))

    open_then : (hub : LinkHub P L) (events : List Event) (more : List Told) (q : Quiets hub events) (conn : ℕ) (now : Live L) → live_at from conn ≡ None → Fate more hub conn now → (from.given < conn) × IsCounted (quiet_count conn (q.calls ++ more)) (it.unread now.opened.value) (it.unread now.link)
    open_then hub events more q conn now was (stayed mid here kept counted) =
        let before = q.open_ conn mid was here in
        let so_far = subst (λ (l : L). IsCounted (quiet_count conn q.calls) (it.unread l) (it.unread mid.link)) (sym (opened_same it p mid now kept)) before.1 in
        (before.0, joined conn q.calls more (it.unread now.opened.value) (it.unread mid.link) (it.unread now.link) so_far counted)
    open_then hub events more q conn now was (opened above fresh zero) =
        let grown = q.given in
        let all_zero : quiet_count conn (q.calls ++ more) ≡ 0 = omega (arith, both conn q.calls more, q.none conn above, zero) in (
          omega (arith, above, grown),
          subst (λ n. IsCounted n (it.unread now.opened.value) (it.unread now.link)) (sym all_zero)
              (subst (λ (l : L). IsCounted 0 (it.unread l) (it.unread now.link)) (sym fresh) (none_counted (it.unread now.link))),
        )

    quiets_then : ((conn : ℕ) (live : Live L) → live_at from conn ≡ Some live → conn ≤ from.given) → (hub : LinkHub P L) (events later : List Event) (new : LinkHub P L) → Quiets hub events → Change it p later hub new → Quiets new (events ++ later)
    quiets_then known_from hub events later new q change =
        let h = hints_of later hub new change in
        let grown = q.given in
        let le = given_grows it p later hub new change in
        record {
          calls = q.calls ++ h.calls;
          tells = appends_then (p.told from.poller) (p.told hub.poller) (p.told new.poller) q.calls h.calls q.tells h.tells;
          stay = λ conn was now found is. stay_then hub events h.calls q conn was now found (known_from conn was found) (h.fate conn now is);
          open_ = λ conn now was is. open_then hub events h.calls q conn now was (h.fate conn now is);
          over = λ conn was within. omega (arith, both conn q.calls h.calls, q.over conn was within, h.none conn (none_yet hub events q conn was within (either (live_at hub conn))));
          none = λ conn above.
              let over_hub : hub.given < conn = omega (arith, above, le) in
              omega (arith, both conn q.calls h.calls, q.none conn over_hub, h.none conn (above_is hub q.known conn over_hub (either (live_at hub conn))));
          known = known_then it p later hub new change q.known;
          given = omega (arith, grown, le);
        }

    quiet_first : ((conn : ℕ) (live : Live L) → live_at from conn ≡ Some live → conn ≤ from.given) → Quiets from []
    quiet_first known_from = record {
      calls = [];
      tells = appends_same (p.told from.poller) (p.told from.poller) refl;
      stay = λ conn was now found is. subst (λ (l : Live L). IsCounted 0 (it.unread was.link) (it.unread l.link)) (sym (some_same was now (live_at from conn) found is)) (none_counted (it.unread was.link));
      open_ = λ conn now was is. absurd (none_some now (live_at from conn) was is);
      over = λ _ _ _. refl;
      none = λ _ _. refl;
      known = known_from;
      given = omega arith;
    }

  pub run_quiets : (poller : P) (from old new : LinkHub P L) (before steps : List HubStep) → IsFresh poller from → Leads (λ old step new. LinkStep it p old step new) from before old → Leads (λ old step new. LinkStep it p old step new) old steps new → TellsQuiet it p old new
  run_quiets poller from old new before steps fresh came way =
      let keeps = run_keeps it p poller from old before fresh came in
      let known = keeps.known in
      let q = Changes-keep it p (Quiets old) (quiets_then old known) old (quiet_first old known) (story steps) new (run_changes it p old new steps way) in
      record { calls = q.calls; told = q.tells; stayed = q.stay; opened = λ conn now was is. (q.open_ conn now was is).1; over = q.over; none = q.none }
