-- What a hub of links never passes.
use Rattle.std.proofs.Common.{◌≡◌, ◌≢◌, ◌⊎◌, ℕ, suc, ◌+◌, ◌*◌, ◌<◌, ◌≤◌, ◌||◌, Bool, true, false, is_some, cond, List, [], ◌∷◌, ◌++◌, length, drop, nat_eq, Option, Some, None, refl, sym, ◌∙◌, ap, subst, inl, inr, arith}
use Rattle.std.specs.List.{AllByRecursion, list_any}
use Rattle.std.specs.Map.{lookup}
use Rattle.std.specs.Option.{IsSome, option_map}
use Rattle.std.specs.Ordering.{eq_by_cmp, nat_cmp}
use Rattle.std.specs.BTreeMap.{BTreeMap, get}
use Rattle.std.proofs.lemmas.Bool.{cases_eq, eqb-true, false≢true}
use Rattle.std.proofs.lemmas.Bool.Decides.{nat_tests}
use Rattle.std.proofs.lemmas.Cmp.{nat_eq_equiv}
use Rattle.std.proofs.lemmas.List.{drop-drop}
use Rattle.std.proofs.lemmas.Map.Steps.{length-le_from_keys}
use Rattle.fg_outside.specs.HubStep.{HubStep, turned, said, closed, Leads}
use Rattle.fg_outside.specs.HubStep as way
use Rattle.fg_outside.specs.declared.hub.Happening.TheVariants.{Opened, Heard, Closed, Reload}
use Rattle.fg_outside.specs.declared.hub.Happening.TheVariants as happenings
use Rattle.fg_outside.specs.declared.hub.Turn.{Turn}
use Rattle.fg_outside.specs.declared.hub.Turn.TheVariants.{Happened, Done, Failed, Memory}
use Rattle.fg_outside.specs.declared.hub.Said.{Said}
use Rattle.fg_outside.specs.declared.hub.Said.TheVariants as answers
use Rattle.fg_links.specs.declared.link.Link as link
use Rattle.fg_links.specs.declared.next.Next.{Next}
use Rattle.fg_links.specs.declared.next.Next.TheVariants as nexts
use Rattle.fg_links.specs.declared.next.MemNext.{MemNext}
use Rattle.fg_links.specs.declared.poller.Poller as poller
use Rattle.link_hub.specs.declared.hub.LinkHub.{LinkHub}
use Rattle.link_hub.specs.declared.live.Live.{Live}
use Rattle.link_hub.specs.Hub.{Asks, Closes, DoesNext, IsFresh, IsSet, LinkStep, Passes, SaysStep, ServesLink, TakesLink, Turns, asked, empty, is_live, live_at, most_empty, most_open, next, open_count, poller_of, spent, start, told}
use Rattle.host_list.proofs.Lists.{count_push}
use Rattle.law_calls.proofs.HubChanges.{Effect, asks_change, ends, opens, serves, unchanged}
use Rattle.law_calls.specs.Links.{AsksWithin, OpensWithin, WaitsWithin, is_turn, turns_in}

-- ---- numbers and entries

lookup_same : {X : Type 0} (test other : ℕ → Bool) → ((k : ℕ) → test k ≡ other k) → (es : List (ℕ × X)) → lookup test es ≡ lookup other es
lookup_same test other same [] = refl
lookup_same test other same (e ∷ es) = ap (λ b. cond b (Some e.1) (lookup test es)) (same e.0) ∙ ap (λ rest. cond (other e.0) (Some e.1) rest) (lookup_same test other same es)

equal_same : (a b : ℕ) → eq_by_cmp nat_cmp a b ≡ nat_eq a b
equal_same a b = grind (arith, nat_tests)

none_is : {A : Type 0} (o : Option A) → o ≡ None → is_some o ≡ true → ⊥
none_is None e is = false≢true is
none_is (Some a) e is = absurd (let no : Some a ≡ None = e in cc)

-- one that stands among numbers of which all have it
of_member : (P : ℕ → Type 0) (xs : List ℕ) → AllByRecursion P xs → (q : ℕ) → list_any (nat_eq q) xs ≡ true → P q
of_member P [] all q is = absurd (false≢true is)
of_member P (x ∷ xs) all q is =
    elim (nat_eq q x) as (λ b. nat_eq q x ≡ b → (b || list_any (nat_eq q) xs) ≡ true → P q) [
      | true ↦ λ same found. subst P (sym (eqb-true q x same)) all.0
      | false ↦ λ other found. of_member P xs all.1 q found
    ] refl is

-- the keys of entries alone
abbrev places : {X : Type 0} → List (ℕ × X) → List (ℕ × Unit {0})
places [] = []
places (e ∷ es) = (e.0, tt) ∷ places es

places_length : {X : Type 0} (es : List (ℕ × X)) → length (places es) ≡ length es
places_length [] = refl
places_length (e ∷ es) = ap suc (places_length es)

place_of : {X : Type 0} (test : ℕ → Bool) (es : List (ℕ × X)) → is_some (lookup test es) ≡ is_some (lookup test (places es))
place_of test [] = refl
place_of test (e ∷ es) =
    elim (test e.0) as (λ b. is_some (cond b (Some e.1) (lookup test es)) ≡ is_some (cond b (Some tt) (lookup test (places es)))) [
      | true ↦ refl
      | false ↦ place_of test es
    ]

same_number : (a b : ℕ) → a ≡ b → nat_eq a b ≡ true
same_number a b e = grind (arith, nat_tests)

module _ {P L : Type 0} (it : link.Ghosts L) (p : poller.Ghosts P L) where
  -- ---- how much waits

  pub waits_within : (hub : LinkHub P L) → WaitsWithin hub
  waits_within hub = λ conn live is. live.few

  -- ---- how many are open

  -- what a call opens: no more than was open, or one more where there was room
  data Opens (old new : LinkHub P L) : Type 0 where
    no_more : ((conn : ℕ) → is_live new conn ≡ true → is_live old conn ≡ true) → Opens old new
    one_more : (conn : ℕ) → open_count old < most_open → ((other : ℕ) → other ≢ conn → is_live new other ≡ true → is_live old other ≡ true) → Opens old new

  elsewhere : {X : Type 0} (old new : BTreeMap ℕ X) (conn : ℕ) (value : Option X) → IsSet conn value old new → (other : ℕ) → other ≢ conn → is_some (get nat_cmp new other) ≡ true → is_some (get nat_cmp old other) ≡ true
  elsewhere old new conn value set other ne is = ap is_some (sym (set.elsewhere other ne)) ∙ is

  -- one that was open stays, or is let go
  set_open : (old new : LinkHub P L) (conn : ℕ) (was : Live L) (value : Option (Live L)) → live_at old conn ≡ Some was → IsSet conn value old.live new.live → (other : ℕ) → is_live new other ≡ true → (other ≡ conn) ⊎ (other ≢ conn) → is_live old other ≡ true
  set_open old new conn was value found set other is (inl e) = ap (λ n. is_live old n) e ∙ ap is_some found
  set_open old new conn was value found set other is (inr ne) = elsewhere old.live new.live conn value set other ne is

  shut_open : (old new : LinkHub P L) (conn : ℕ) → IsSet conn None old.live new.live → (other : ℕ) → is_live new other ≡ true → (other ≡ conn) ⊎ (other ≢ conn) → is_live old other ≡ true
  shut_open old new conn set other is (inl e) = absurd (none_is (live_at new conn) set.here (ap (λ n. is_live new n) (sym e) ∙ is))
  shut_open old new conn set other is (inr ne) = elsewhere old.live new.live conn None set other ne is

  opens_by : (turn : Option Turn) (old new : LinkHub P L) → Effect it p turn old new → Opens old new
  opens_by turn old new (unchanged live) = no_more (λ conn is. ap is_some (sym (live conn)) ∙ is)
  opens_by turn old new (serves c was now found set sends) = no_more (λ conn is. set_open old new c was (Some now) found set conn is (cases_eq conn c))
  opens_by turn old new (ends c cause set e) = no_more (λ conn is. shut_open old new c set conn is (cases_eq conn c))
  opens_by turn old new (opens c came now fresh set room e) = one_more c room (λ other ne is. elsewhere old.live new.live c (Some now) set other ne is)

  all_stay : (old new : LinkHub P L) → ((conn : ℕ) → is_live new conn ≡ true → is_live old conn ≡ true) → (conns : List ℕ) → AllByRecursion (λ conn. is_live new conn ≡ true) conns → AllByRecursion (λ conn. is_live old conn ≡ true) conns
  all_stay old new stays [] all = tt
  all_stay old new stays (conn ∷ conns) all = (stays conn all.0, all_stay old new stays conns all.1)

  -- a number that is open stands among the keys of those that were, and this one
  key_of : (old new : LinkHub P L) (conn : ℕ) → ((other : ℕ) → other ≢ conn → is_live new other ≡ true → is_live old other ≡ true) → (q : ℕ) (b : Bool) → nat_eq q conn ≡ b → is_live new q ≡ true
      → IsSome (cond b (Some tt) (lookup (nat_eq q) (places old.live.entries)))
  key_of old new conn others q true same is = refl
  key_of old new conn others q false other is =
      let was : is_live old q ≡ true = others q (λ e. absurd (let no : true ≡ false = sym (same_number q conn e) ∙ other in cc)) is in
      sym (place_of (nat_eq q) old.live.entries) ∙ ap is_some (sym (lookup_same (eq_by_cmp nat_cmp q) (nat_eq q) (equal_same q) old.live.entries)) ∙ was

  few_then : (old new : LinkHub P L) → OpensWithin old → Opens old new → OpensWithin new
  few_then old new few (no_more stays) = λ conns apart all. few conns apart (all_stay old new stays conns all)
  few_then old new few (one_more conn room others) = λ conns apart all.
      let entries : List (ℕ × Unit {0}) = (conn, tt) ∷ places old.live.entries in
      let most : length conns ≤ length entries =
      length-le_from_keys nat_eq_equiv conns entries apart (λ q is. key_of old new conn others q (nat_eq q conn) refl (of_member (λ n. is_live new n ≡ true) conns all q is)) in
      omega (arith, most, room, places_length old.live.entries)

  -- ---- an answer of the poller

  asks_few : (old : LinkHub P L) (turn : Option Turn) (new : LinkHub P L) → OpensWithin old → Asks it p old turn new → OpensWithin new
  asks_few old turn new few asks = few_then old new few (opens_by turn old new (asks_change it p old turn new asks).0)

  passes_few : (old : LinkHub P L) (n : ℕ) (to : LinkHub P L) → OpensWithin old → Passes it p old n to → OpensWithin to
  passes_few old _ _ few start = few
  passes_few old _ _ few (next n mid to way asks) = asks_few mid None to (passes_few old n mid few way) asks

  -- ---- calls

  same_few : (old new : LinkHub P L) → OpensWithin old → ((conn : ℕ) → live_at new conn ≡ live_at old conn) → OpensWithin new
  same_few old new few same = few_then old new few (no_more (λ conn is. ap is_some (sym (same conn)) ∙ is))

  gone_few : (old new : LinkHub P L) (conn : ℕ) → OpensWithin old → IsSet conn None old.live new.live → OpensWithin new
  gone_few old new conn few set = few_then old new few (no_more (λ other is. shut_open old new conn set other is (cases_eq other conn)))

  live_same : (new other : LinkHub P L) → new ≡ other → (conn : ℕ) → live_at new conn ≡ live_at other conn
  live_same new other e conn = ap (λ (hub : LinkHub P L). live_at hub conn) e

  turns_few : (old : LinkHub P L) (turn : Turn) (new : LinkHub P L) → OpensWithin old → Turns it p old turn new → OpensWithin new
  turns_few old _ _ few (spent is) = few
  turns_few old _ _ few (told conn cause new running tells) = same_few old new few (live_same new _ tells.rest)
  turns_few old _ _ few (asked n mid turn new running idle less passes asks) = asks_few mid (Some turn) new (passes_few old n mid few passes) asks
  turns_few old _ _ few (empty new running idle passes) = passes_few old most_empty new few passes

  step_few : (old : LinkHub P L) (step : HubStep) (new : LinkHub P L) → OpensWithin old → LinkStep it p old step new → OpensWithin new
  step_few old (turned turn) new few may = turns_few old turn new few may
  step_few old (said conn piece answers.Taken) new few (running, h) = few_then old new few (no_more (λ other is. set_open old new conn h.was (Some h.is) h.found h.set other is (cases_eq other conn)))
  step_few old (said conn piece answers.Gone) new few (running, inl h) = same_few old new few (live_same new _ h.1)
  step_few old (said conn piece answers.Gone) new few (running, inr h) = gone_few old new conn few h.ends.set
  step_few old (said conn piece answers.Memory) new few (inl h) = same_few old new few (live_same new _ h.1)
  step_few old (said conn piece answers.Memory) new few (inr (running, h)) = elim h.either [
    | inl same ↦ same_few old new few same.0
    | inr end ↦ gone_few old new conn few end.1.set
  ]
  step_few old (closed conn) new few may = gone_few old new conn few may.set

  none_open : (poller : P) (from : LinkHub P L) → IsFresh poller from → (conns : List ℕ) → AllByRecursion (λ conn. is_live from conn ≡ true) conns → length conns ≤ most_open
  none_open poller from fresh [] all = omega arith
  none_open poller from fresh (conn ∷ conns) all = absurd (none_is (live_at from conn) (fresh.none conn) all.0)

  pub run_few : (poller : P) (from : LinkHub P L) → IsFresh poller from → (steps : List HubStep) (to : LinkHub P L) → Leads (λ old step new. LinkStep it p old step new) from steps to → OpensWithin to
  run_few poller from fresh _ _ way.start = λ conns apart all. none_open poller from fresh conns all
  run_few poller from fresh _ _ (way.next steps mid step to came may) = step_few mid step to (run_few poller from fresh steps mid came) may

  -- ---- how often the poller is asked

  dropped_then : (o : Option (List (MemNext L))) (m n : ℕ) → option_map (drop n) (option_map (drop m) o) ≡ option_map (drop (m + n)) o
  dropped_then None m n = refl
  dropped_then (Some list) m n = ap (λ (l : List (MemNext L)). Some l) (drop-drop n m list)

  none_dropped : (o : Option (List (MemNext L))) → option_map (drop 0) o ≡ o
  none_dropped None = refl
  none_dropped (Some list) = refl

  not_asked : (most : ℕ) (old new : LinkHub P L) → p.ahead (poller_of new) ≡ p.ahead (poller_of old) → AsksWithin p most old new
  not_asked most old new same = record { count = 0; few = omega arith; ahead = same ∙ sym (none_dropped (p.ahead (poller_of old))) }

  asks_then : (m n : ℕ) (old mid new : LinkHub P L) → AsksWithin p m old mid → AsksWithin p n mid new → AsksWithin p (m + n) old new
  asks_then m n old mid new a b = record {
    count = a.count + b.count;
    few = omega (arith, a.few, b.few);
    ahead = b.ahead ∙ ap (option_map (drop b.count)) a.ahead ∙ dropped_then (p.ahead (poller_of old)) a.count b.count;
  }

  asks_more : (m n : ℕ) (old new : LinkHub P L) → m ≤ n → AsksWithin p m old new → AsksWithin p n old new
  asks_more m n old new le a = record { count = a.count; few = omega (arith, a.few, le); ahead = a.ahead }

  -- what is done of an answer asks for no other
  ahead_same : (new other : LinkHub P L) → new ≡ other → p.ahead new.poller ≡ p.ahead other.poller
  ahead_same new other e = ap (λ (hub : LinkHub P L). p.ahead hub.poller) e

  takes_ahead : (old new : LinkHub P L) (came : L) (turn : Option Turn) → TakesLink p came old turn new → p.ahead new.poller ≡ p.ahead old.poller
  takes_ahead old new came None (inl h) = h.gone.ahead
  takes_ahead old new came None (inr h) = ahead_same new _ h.rest
  takes_ahead old new came (Some (Happened (Opened conn))) h = ahead_same new _ h.rest
  takes_ahead old new came (Some (Happened (Heard conn piece))) h = absurd h
  takes_ahead old new came (Some (Happened (Closed conn cause))) h = absurd h
  takes_ahead old new came (Some (Happened (happenings.Moment moment))) h = absurd h
  takes_ahead old new came (Some (Happened (Reload text))) h = absurd h
  takes_ahead old new came (Some Done) h = absurd h
  takes_ahead old new came (Some Failed) h = absurd h
  takes_ahead old new came (Some Memory) h = h.gone.ahead

  serves_ahead : (old new : LinkHub P L) (conn : ℕ) (turn : Option Turn) → ServesLink it p conn old turn new → p.ahead new.poller ≡ p.ahead old.poller
  serves_ahead old new conn None (inl h) = ahead_same new _ h.1
  serves_ahead old new conn None (inr h) = h.quiet.ahead
  serves_ahead old new conn (Some (Happened (Opened c))) h = absurd h
  serves_ahead old new conn (Some (Happened (Heard c piece))) h = ahead_same new _ h.1.rest
  serves_ahead old new conn (Some (Happened (Closed c cause))) h = h.1.gone.ahead
  serves_ahead old new conn (Some (Happened (happenings.Moment moment))) h = absurd h
  serves_ahead old new conn (Some (Happened (Reload text))) h = absurd h
  serves_ahead old new conn (Some Done) h = absurd h
  serves_ahead old new conn (Some Failed) h = absurd h
  serves_ahead old new conn (Some Memory) h = ahead_same new _ h

  does_ahead : (old new : LinkHub P L) (answer : Next L) (turn : Option Turn) → DoesNext it p answer old turn new → p.ahead new.poller ≡ p.ahead old.poller
  does_ahead old new (nexts.New came) turn h = takes_ahead old new came turn h
  does_ahead old new (nexts.Ready conn) turn h = serves_ahead old new conn turn h
  does_ahead old new (nexts.Moment moment) turn h = ahead_same new _ h.1
  does_ahead old new nexts.Stop turn h = ahead_same new _ h.1
  does_ahead old new nexts.Failed turn h = ahead_same new _ h.1

  one_asked : (old new : LinkHub P L) → p.ahead (poller_of new) ≡ option_map (drop 1) (p.ahead (poller_of old)) → AsksWithin p 1 old new
  one_asked old new is = record { count = 1; few = omega arith; ahead = is }

  answer_ahead : (old new : LinkHub P L) (after : P) (answer : Next L) → (answer ≢ nexts.Failed → p.ahead after ≡ option_map (drop 1) (p.ahead old.poller)) → (answer ≡ nexts.Failed → p.ahead after ≡ p.ahead old.poller) → p.ahead new.poller ≡ p.ahead after → AsksWithin p 1 old new
  answer_ahead old new after (nexts.New came) onward kept same = one_asked old new (same ∙ onward (λ e. absurd (let no : nexts.New came ≡ nexts.Failed = e in cc)))
  answer_ahead old new after (nexts.Ready conn) onward kept same = one_asked old new (same ∙ onward (λ e. absurd (let no : ◌≡◌ {A = Next L} (nexts.Ready conn) nexts.Failed = e in cc)))
  answer_ahead old new after (nexts.Moment moment) onward kept same = one_asked old new (same ∙ onward (λ e. absurd (let no : ◌≡◌ {A = Next L} (nexts.Moment moment) nexts.Failed = e in cc)))
  answer_ahead old new after nexts.Stop onward kept same = one_asked old new (same ∙ onward (λ e. absurd (let no : ◌≡◌ {A = Next L} nexts.Stop nexts.Failed = e in cc)))
  answer_ahead old new after nexts.Failed onward kept same = not_asked 1 old new (same ∙ kept refl)

  asks_one : (old : LinkHub P L) (turn : Option Turn) (new : LinkHub P L) → Asks it p old turn new → AsksWithin p 1 old new
  asks_one old turn new asks =
      answer_ahead old new asks.asked asks.answer asks.answers.onward asks.answers.kept (does_ahead (record old { poller = asks.asked }) new asks.answer turn asks.does)

  passes_asks : (old : LinkHub P L) (n : ℕ) (to : LinkHub P L) → Passes it p old n to → AsksWithin p n old to
  passes_asks old _ _ start = not_asked 0 old old refl
  passes_asks old _ _ (next n mid to came asks) = asks_then n 1 old mid to (passes_asks old n mid came) (asks_one mid None to asks)

  pub turn_asks : (old : LinkHub P L) (turn : Turn) (new : LinkHub P L) → Turns it p old turn new → AsksWithin p most_empty old new
  turn_asks old _ _ (spent is) = not_asked most_empty old old refl
  turn_asks old _ _ (told conn cause new running tells) = not_asked most_empty old new (ahead_same new _ tells.rest)
  turn_asks old _ _ (asked n mid turn new running idle less passes asks) =
      asks_more (n + 1) most_empty old new (omega (arith, less)) (asks_then n 1 old mid new (passes_asks old n mid passes) (asks_one mid (Some turn) new asks))
  turn_asks old _ _ (empty new running idle passes) = passes_asks old most_empty new passes

  gone_ahead : (old new : LinkHub P L) (conn : ℕ) (b : Bool) → is_live old conn ≡ b → Closes p conn old new → p.ahead new.poller ≡ p.ahead old.poller
  gone_ahead old new conn true is h = (h.gone is).ahead
  gone_ahead old new conn false is h = ap (λ (x : P). p.ahead x) (h.untold is)

  -- another call asks for none
  says_ahead : (old new : LinkHub P L) (conn : ℕ) (piece : List ℕ) (answer : Said) → SaysStep it p conn piece old answer new → p.ahead new.poller ≡ p.ahead old.poller
  says_ahead old new conn piece answers.Taken (running, h) = ahead_same new _ h.rest
  says_ahead old new conn piece answers.Gone (running, inl h) = ahead_same new _ h.1
  says_ahead old new conn piece answers.Gone (running, inr h) = h.ends.gone.ahead
  says_ahead old new conn piece answers.Memory (inl h) = ahead_same new _ h.1
  says_ahead old new conn piece answers.Memory (inr (running, h)) = elim h.either [
    | inl same ↦ ap (λ (x : P). p.ahead x) same.1
    | inr end ↦ end.1.gone.ahead
  ]

  step_asks : (old : LinkHub P L) (step : HubStep) (new : LinkHub P L) → LinkStep it p old step new → AsksWithin p (most_empty * cond (is_turn step) 1 0) old new
  step_asks old (turned turn) new may = asks_more most_empty (most_empty * 1) old new (omega arith) (turn_asks old turn new may)
  step_asks old (said conn piece answer) new may = not_asked (most_empty * 0) old new (says_ahead old new conn piece answer may)
  step_asks old (closed conn) new may = not_asked (most_empty * 0) old new (gone_ahead old new conn (is_live old conn) refl may)

  pub run_asks : (from : LinkHub P L) (steps : List HubStep) (to : LinkHub P L) → Leads (λ old step new. LinkStep it p old step new) from steps to → AsksWithin p (most_empty * turns_in steps) from to
  run_asks from _ _ way.start = not_asked (most_empty * 0) from from refl
  run_asks from _ _ (way.next steps mid step to came may) =
      let more = asks_then (most_empty * turns_in steps) (most_empty * cond (is_turn step) 1 0) from mid to (run_asks from steps mid came) (step_asks mid step to may) in
      asks_more (most_empty * turns_in steps + most_empty * cond (is_turn step) 1 0) (most_empty * turns_in (steps ++ step ∷ [])) from to (omega (arith, count_push is_turn steps step)) more
