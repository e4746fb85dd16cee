-- What whole runs of a hub come to for the bytes of each connection.
use Rattle.std.proofs.Common.{◌≡◌, ◌≢◌, ◌⊎◌, ℕ, ◌+◌, ◌<◌, ◌≤◌, List, [], ◌∷◌, ◌++◌, Option, Some, None, refl, sym, ◌∙◌, ap, subst, inl, inr, arith, append_assoc, append-nil}
use Rattle.std.proofs.lemmas.Bool.{cases_eq}
use Rattle.std.proofs.lemmas.Grind.{flat_map-append}
use Rattle.fg_outside.specs.Left.{prepended}
use Rattle.fg_outside.specs.Wrote.{appended}
use Rattle.fg_outside.specs.HubStep.{HubStep, Event, happening, story, Leads}
use Rattle.fg_outside.proofs.SinkLemmas.{appended-append}
use Rattle.fg_outside.specs.declared.hub.Happening.TheVariants.{Opened}
use Rattle.fg_links.specs.declared.link.Link as link
use Rattle.fg_links.specs.declared.poller.Poller as poller
use Rattle.link_hub.specs.declared.hub.LinkHub.{LinkHub}
use Rattle.link_hub.specs.declared.live.Live.{Live}
use Rattle.link_hub.specs.Links.{IsNew}
use Rattle.link_hub.specs.Hub.{live_at, IsSet, IsFresh, LinkStep}
use Rattle.link_hub.specs.Runs.{heard_by, said_by, heard_on, said_on, IsServedInOrder}
use Rattle.link_hub.proofs.ChangeLemmas.{prepended-nil, IsSilent, silent_nil, Moves, Change, unchanged, moved, let_go, taken, dropped, Changes-keep, run_changes}

prepended-append : (f g : List ℕ) (w : Option (List ℕ)) → prepended f (prepended g w) ≡ prepended (f ++ g) w
prepended-append f g None = refl
prepended-append f g (Some w) = ap (λ (l : List ℕ). Some l) (sym (append_assoc f g w))

heard_on-append : (conn : ℕ) (xs ys : List Event) → heard_on conn (xs ++ ys) ≡ heard_on conn xs ++ heard_on conn ys
heard_on-append conn xs ys = flat_map-append (heard_by conn) xs ys

said_on-append : (conn : ℕ) (xs ys : List Event) → said_on conn (xs ++ ys) ≡ said_on conn xs ++ said_on conn ys
said_on-append conn xs ys = flat_map-append (said_by conn) xs ys

both_nil : (xs ys : List ℕ) → xs ≡ [] → ys ≡ [] → xs ++ ys ≡ []
both_nil xs ys e h = ap (λ (l : List ℕ). l ++ ys) e ∙ h

silent_then : (conn : ℕ) (xs ys : List Event) → IsSilent conn xs → IsSilent conn ys → IsSilent conn (xs ++ ys)
silent_then conn xs ys a b = record {
  heard = heard_on-append conn xs ys ∙ both_nil (heard_on conn xs) (heard_on conn ys) a.heard b.heard;
  said = said_on-append conn xs ys ∙ both_nil (said_on conn xs) (said_on conn ys) a.said b.said;
}

silent_opened : (conn other : ℕ) (events : List Event) → events ≡ happening (Opened conn) ∷ [] → IsSilent other events
silent_opened conn other events e = subst (λ (l : List Event). IsSilent other l) (sym e) (record { heard = refl; said = refl })

pub some_same : {A : Type 0} (a b : A) (o : Option A) → o ≡ Some a → o ≡ Some b → b ≡ a
some_same a b o e h = cc

pub none_some : {A : Type 0} (a : A) (o : Option A) → o ≡ None → o ≡ Some a → ⊥
none_some a o e h = cc

module _ {P L : Type 0} (it : link.Ghosts L) (p : poller.Ghosts P L) where
  -- where the open link of a connection comes from: it was open, or it opened
  pub data Origin (more : List Event) (old new : LinkHub P L) (conn : ℕ) (now : Live L) : Type 0 where
    still : live_at old conn ≡ Some now → IsSilent conn more → Origin more old new conn now
    moves : (was : Live L) → live_at old conn ≡ Some was → Moves it p conn more was now → Origin more old new conn now
    comes : (link : L) → IsNew link now → more ≡ happening (Opened conn) ∷ [] → old.given < conn → conn ≤ new.given → Origin more old new conn now

  moved_or : (more : List Event) (old new : LinkHub P L) (c : ℕ) (was next : Live L) → live_at old c ≡ Some was → IsSet c (Some next) old.live new.live → Moves it p c more was next → ((other : ℕ) → other ≢ c → IsSilent other more) → (conn : ℕ) (now : Live L) → live_at new conn ≡ Some now → (conn ≡ c) ⊎ (conn ≢ c) → Origin more old new conn now
  moved_or more old new c was next found set m silent conn now is (inl e) =
      let here : live_at new c ≡ Some now = ap (λ n. live_at new n) (sym e) ∙ is in
      let same_link : now ≡ next = some_same next now (live_at new c) set.here here in
      moves was (ap (λ n. live_at old n) e ∙ found) (subst (λ n. Moves it p n more was now) (sym e) (subst (λ (l : Live L). Moves it p c more was l) (sym same_link) m))
  moved_or more old new c was next found set m silent conn now is (inr ne) = still (sym (set.elsewhere conn ne) ∙ is) (silent conn ne)

  ended_or : (more : List Event) (old new : LinkHub P L) (c : ℕ) → IsSet c None old.live new.live → ((other : ℕ) → IsSilent other more) → (conn : ℕ) (now : Live L) → live_at new conn ≡ Some now → (conn ≡ c) ⊎ (conn ≢ c) → Origin more old new conn now
  ended_or more old new c set silent conn now is (inl e) = absurd (none_some now (live_at new c) set.here (ap (λ n. live_at new n) (sym e) ∙ is))
  ended_or more old new c set silent conn now is (inr ne) = still (sym (set.elsewhere conn ne) ∙ is) (silent conn)

  opened_or : (more : List Event) (old new : LinkHub P L) (c : ℕ) (link : L) (next : Live L) → IsNew link next → IsSet c (Some next) old.live new.live → c ≡ old.given + 1 → new.given ≡ c → more ≡ happening (Opened c) ∷ [] → (conn : ℕ) (now : Live L) → live_at new conn ≡ Some now → (conn ≡ c) ⊎ (conn ≢ c) → Origin more old new conn now
  opened_or more old new c link next fresh set number given event conn now is (inl e) =
      let here : live_at new c ≡ Some now = ap (λ n. live_at new n) (sym e) ∙ is in
      let same_link : now ≡ next = some_same next now (live_at new c) set.here here in
      comes link (subst (λ (l : Live L). IsNew link l) (sym same_link) fresh) (subst (λ n. more ≡ happening (Opened n) ∷ []) (sym e) event) (omega (arith, e, number)) (omega (arith, e, given))
  opened_or more old new c link next fresh set number given event conn now is (inr ne) = still (sym (set.elsewhere conn ne) ∙ is) (silent_opened c conn more event)

  pub origin_of : (more : List Event) (old new : LinkHub P L) → Change it p more old new → (conn : ℕ) (now : Live L) → live_at new conn ≡ Some now → Origin more old new conn now
  origin_of more old new (unchanged live given told silent) conn now is = still (sym (live conn) ∙ is) (silent conn)
  origin_of more old new (moved c was next calls found set given told reads m silent) conn now is = moved_or more old new c was next found set m silent conn now is (cases_eq conn c)
  origin_of more old new (let_go c was found set given told silent) conn now is = ended_or more old new c set silent conn now is (cases_eq conn c)
  origin_of more old new (taken c link next fresh set number given told event) conn now is = opened_or more old new c link next fresh set number given event conn now is (cases_eq conn c)
  origin_of more old new (dropped live given told silent) conn now is = still (sym (live conn) ∙ is) (silent conn)

  pub given_grows : (more : List Event) (old new : LinkHub P L) → Change it p more old new → old.given ≤ new.given
  given_grows more old new (unchanged live given told silent) = omega (arith, given)
  given_grows more old new (moved c was next calls found set given told reads m silent) = omega (arith, given)
  given_grows more old new (let_go c was found set given told silent) = omega (arith, given)
  given_grows more old new (taken c link next fresh set number given told event) = omega (arith, given, number)
  given_grows more old new (dropped live given told silent) = omega (arith, given)

  known_by : (more : List Event) (old new : LinkHub P L) → old.given ≤ new.given → ((conn : ℕ) (live : Live L) → live_at old conn ≡ Some live → conn ≤ old.given) → (conn : ℕ) (now : Live L) → Origin more old new conn now → conn ≤ new.given
  known_by more old new le known conn now (still is silent) = omega (arith, le, known conn now is)
  known_by more old new le known conn now (moves was found m) = omega (arith, le, known conn was found)
  known_by more old new le known conn now (comes link fresh event above within) = within

  -- only numbers that were given are open
  pub known_then : (more : List Event) (old new : LinkHub P L) → Change it p more old new → ((conn : ℕ) (live : Live L) → live_at old conn ≡ Some live → conn ≤ old.given) → (conn : ℕ) (now : Live L) → live_at new conn ≡ Some now → conn ≤ new.given
  known_then more old new change known conn now is = known_by more old new (given_grows more old new change) known conn now (origin_of more old new change conn now is)

  -- the hub has served each open link in order, and none was open with a number that isn't given yet
  pub record Keeps (hub : LinkHub P L) (events : List Event) : Type 0 where
    pub open_ : (conn : ℕ) (live : Live L) → live_at hub conn ≡ Some live → IsServedInOrder it conn events live
    pub known : (conn : ℕ) (live : Live L) → live_at hub conn ≡ Some live → conn ≤ hub.given
    pub silent : (conn : ℕ) → hub.given < conn → IsSilent conn events

  pub opened_same : (was now : Live L) → now.opened ≡ was.opened → now.opened.value ≡ was.opened.value
  opened_same was now e = cc

  fault_since : (was now : Live L) → now.opened ≡ was.opened → it.faults was.opened.value ≤ it.faults was.link → it.faults was.link ≤ it.faults now.link → it.faults now.opened.value ≤ it.faults now.link
  fault_since was now e a b = omega (arith, ap (λ (o : L). it.faults o) (opened_same was now e))

  served_then : (conn : ℕ) (events more : List Event) (was now : Live L) → IsServedInOrder it conn events was → Moves it p conn more was now → IsServedInOrder it conn (events ++ more) now
  served_then conn events more was now a m =
      let opened = opened_same was now m.sends.opened in
      record {
        heard =
            ap (λ (o : L). it.left o) opened
            ∙ a.heard
            ∙ ap (λ (w : Option (List ℕ)). prepended (heard_on conn events) w) m.heard
            ∙ prepended-append (heard_on conn events) (heard_on conn more) (it.left now.link)
            ∙ sym (ap (λ (l : List ℕ). prepended l (it.left now.link)) (heard_on-append conn events more));
        said =
            ap (λ (o : L). appended (it.wrote o) (said_on conn (events ++ more))) opened
            ∙ ap (λ (l : List ℕ). appended (it.wrote was.opened.value) l) (said_on-append conn events more)
            ∙ sym (appended-append (it.wrote was.opened.value) (said_on conn events) (said_on conn more))
            ∙ ap (λ (w : Option (List ℕ)). appended w (said_on conn more)) a.said
            ∙ appended-append (it.wrote was.link) was.unsent (said_on conn more)
            ∙ ap (λ (l : List ℕ). appended (it.wrote was.link) l) m.sends.parts
            ∙ sym (appended-append (it.wrote was.link) m.sends.front now.unsent)
            ∙ sym (ap (λ (w : Option (List ℕ)). appended w now.unsent) m.sends.wrote);
        faults = fault_since was now m.sends.opened a.faults m.sends.faults;
      }

  -- events that tell nothing of its bytes
  served_still : (conn : ℕ) (events more : List Event) (live : Live L) → IsServedInOrder it conn events live → IsSilent conn more → IsServedInOrder it conn (events ++ more) live
  served_still conn events more live a silent =
      record {
        heard = a.heard ∙ sym (ap (λ (l : List ℕ). prepended l (it.left live.link)) (heard_on-append conn events more ∙ ap (λ (l : List ℕ). heard_on conn events ++ l) silent.heard ∙ append-nil (heard_on conn events)));
        said = ap (λ (l : List ℕ). appended (it.wrote live.opened.value) l) (said_on-append conn events more ∙ ap (λ (l : List ℕ). said_on conn events ++ l) silent.said ∙ append-nil (said_on conn events)) ∙ a.said;
        faults = a.faults;
      }

  -- a link that opens has given and was given nothing yet
  served_new : (conn : ℕ) (events : List Event) (link : L) (now : Live L) → IsNew link now → IsSilent conn events → IsServedInOrder it conn events now
  served_new conn events link now fresh silent = record {
    heard =
        ap (λ (o : L). it.left o) (fresh.opened ∙ sym fresh.link)
        ∙ sym (ap (λ (l : List ℕ). prepended l (it.left now.link)) silent.heard ∙ prepended-nil (it.left now.link));
    said =
        ap (λ (o : L). appended (it.wrote o) (said_on conn events)) (fresh.opened ∙ sym fresh.link)
        ∙ ap (λ (l : List ℕ). appended (it.wrote now.link) l) (silent.said ∙ sym fresh.unsent);
    faults = omega (arith, ap (λ (o : L). it.faults o) (fresh.opened ∙ sym fresh.link));
  }

  served_by : (old : LinkHub P L) (events more : List Event) (new : LinkHub P L) → Keeps old events → (conn : ℕ) (live : Live L) → Origin more old new conn live → IsServedInOrder it conn (events ++ more) live
  served_by old events more new keeps conn live (still is silent) = served_still conn events more live (keeps.open_ conn live is) silent
  served_by old events more new keeps conn live (moves was found m) = served_then conn events more was live (keeps.open_ conn was found) m
  served_by old events more new keeps conn live (comes link fresh event above within) =
      served_new conn (events ++ more) link live fresh (silent_then conn events more (keeps.silent conn above) (silent_opened conn conn more event))

  -- nothing is told of a number that isn't given yet
  silent_above : (more : List Event) (old new : LinkHub P L) → Change it p more old new → ((conn : ℕ) (live : Live L) → live_at old conn ≡ Some live → conn ≤ old.given) → (conn : ℕ) → new.given < conn → IsSilent conn more
  silent_above more old new (unchanged live given told silent) known conn above = silent conn
  silent_above more old new (moved c was next calls found set given told reads m silent) known conn above =
      let within : c ≤ old.given = known c was found in
      silent conn (λ e. absurd (omega (arith, e, above, given, within)))
  silent_above more old new (let_go c was found set given told silent) known conn above = silent conn
  silent_above more old new (taken c link next fresh set number given told event) known conn above = silent_opened c conn more event
  silent_above more old new (dropped live given told silent) known conn above = silent conn

  keeps_then : (old : LinkHub P L) (events more : List Event) (new : LinkHub P L) → Keeps old events → Change it p more old new → Keeps new (events ++ more)
  keeps_then old events more new keeps change =
      let le = given_grows more old new change in
      record {
        open_ = λ conn live is. served_by old events more new keeps conn live (origin_of more old new change conn live is);
        known = known_then more old new change keeps.known;
        silent = λ conn above. silent_then conn events more (keeps.silent conn (omega (arith, above, le))) (silent_above more old new change keeps.known conn above);
      }

  fresh_keeps : (poller : P) (hub : LinkHub P L) → IsFresh poller hub → Keeps hub []
  fresh_keeps poller hub fresh = record {
    open_ = λ conn live is. absurd (none_some live (live_at hub conn) (fresh.none conn) is);
    known = λ conn live is. absurd (none_some live (live_at hub conn) (fresh.none conn) is);
    silent = λ conn above. silent_nil conn;
  }

  pub run_keeps : (poller : P) (from to : LinkHub P L) (steps : List HubStep) → IsFresh poller from → Leads (λ old step new. LinkStep it p old step new) from steps to → Keeps to (story steps)
  run_keeps poller from to steps fresh way = Changes-keep it p Keeps keeps_then from (fresh_keeps poller from fresh) (story steps) to (run_changes it p from to steps way)

  pub run_served : (poller : P) (from to : LinkHub P L) (steps : List HubStep) → IsFresh poller from → Leads (λ old step new. LinkStep it p old step new) from steps to → (conn : ℕ) (live : Live L) → live_at to conn ≡ Some live → IsServedInOrder it conn (story steps) live
  run_served poller from to steps fresh way conn live is = (run_keeps poller from to steps fresh way).open_ conn live is
