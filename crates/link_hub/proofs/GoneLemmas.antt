-- How often a poller is told that a link is no longer used, step by step.
use Rattle.std.proofs.Common.{◌≡◌, ◌≢◌, ◌⊎◌, ℕ, ◌+◌, ◌<◌, ◌≤◌, true, false, List, [], ◌∷◌, ◌++◌, is_some, Option, Some, None, refl, sym, ◌∙◌, ap, subst, inl, inr, arith, append_assoc}
use Rattle.std.proofs.lemmas.Bool.{cases_eq}
use Rattle.std.proofs.lemmas.Grind.{common_steps}
use Rattle.std.proofs.lemmas.List.Sums.{sum_by-append}
use Rattle.fg_outside.specs.HubStep.{HubStep, Event, story, Leads}
use Rattle.fg_links.specs.declared.link.Link as link
use Rattle.fg_links.specs.declared.poller.Poller as poller
use Rattle.fg_links.specs.declared.told.Told.{Told}
use Rattle.fg_links.specs.declared.told.Told.TheVariants.{Gone}
use Rattle.fg_links.specs.Calls.{Appends}
use Rattle.link_hub.specs.declared.hub.LinkHub.{LinkHub}
use Rattle.link_hub.specs.declared.live.Live.{Live}
use Rattle.link_hub.specs.Hub.{live_at, is_live, IsSet, IsFresh, LinkStep}
use Rattle.link_hub.specs.Runs.{gone_by, gone_count, TellsGone}
use Rattle.link_hub.proofs.ChangeLemmas.{appends_same, Reads, read_later, read_some, Change, unchanged, moved, let_go, taken, dropped, Changes-keep, run_changes}

true_false : true ≡ false → ⊥
true_false e = cc

pub appends_then : (a b d : Option (List Told)) (xs ys : List Told) → Appends a xs b → Appends b ys d → Appends a (xs ++ ys) d
appends_then a b None xs ys g h = tt
appends_then a None (Some after) xs ys g h = absurd h
appends_then None (Some mid) (Some after) xs ys g h = absurd g
appends_then (Some before) (Some mid) (Some after) xs ys g h = h ∙ ap (λ (l : List Told). l ++ ys) g ∙ append_assoc before xs ys

count_append : (conn : ℕ) (xs ys : List Told) → gone_count conn (xs ++ ys) ≡ gone_count conn xs + gone_count conn ys
count_append conn xs ys = sum_by-append (gone_by conn) xs ys

count_one : (conn : ℕ) → gone_count conn (Gone conn ∷ []) ≡ 1
count_one conn = grind (arith, common_steps)

count_other : (link conn : ℕ) → conn ≢ link → gone_count conn (Gone link ∷ []) ≡ 0
count_other link conn ne = grind (arith, common_steps, ne)

live_of : {P L : Type 0} (hub : LinkHub P L) (conn : ℕ) (live : Live L) → live_at hub conn ≡ Some live → is_live hub conn ≡ true
live_of hub conn live e = ap (λ o. is_some o) e

not_live_of : {P L : Type 0} (hub : LinkHub P L) (conn : ℕ) → live_at hub conn ≡ None → is_live hub conn ≡ false
not_live_of hub conn e = ap (λ o. is_some o) e

module _ {P L : Type 0} (it : link.Ghosts L) (p : poller.Ghosts P L) (from : LinkHub P L) where
  -- what holds of a hub behind a run
  record Tidy (hub : LinkHub P L) (events : List Event) : Type 0 where
    pub calls : List Told
    pub tells : Appends (p.told from.poller) calls (p.told hub.poller)
    pub open_ : (conn : ℕ) → is_live hub conn ≡ true → gone_count conn calls ≡ 0
    pub gone : (conn : ℕ) → is_live hub conn ≡ false → 0 < conn → conn ≤ hub.given → gone_count conn calls ≡ 1
    pub never : (conn : ℕ) → hub.given < conn → gone_count conn calls ≡ 0
    pub known : (conn : ℕ) → is_live hub conn ≡ true → (0 < conn) × (conn ≤ hub.given)

  -- no link comes or goes
  stays : (hub new : LinkHub P L) (events later : List Event) (more : List Told) → Tidy hub events → Appends (p.told hub.poller) more (p.told new.poller) → ((conn : ℕ) → gone_count conn more ≡ 0) → new.given ≡ hub.given → ((conn : ℕ) → is_live new conn ≡ is_live hub conn) → Tidy new later
  stays hub new events later more t tells none given alike = record {
    calls = t.calls ++ more;
    tells = appends_then (p.told from.poller) (p.told hub.poller) (p.told new.poller) t.calls more t.tells tells;
    open_ = λ conn e. omega (arith, count_append conn t.calls more, none conn, t.open_ conn (sym (alike conn) ∙ e));
    gone = λ conn e pos le. omega (arith, count_append conn t.calls more, none conn, t.gone conn (sym (alike conn) ∙ e) pos (subst (λ n. conn ≤ n) given le));
    never = λ conn above. omega (arith, count_append conn t.calls more, none conn, t.never conn (subst (λ n. n < conn) given above));
    known = λ conn e. let k = t.known conn (sym (alike conn) ∙ e) in (k.0, subst (λ n. conn ≤ n) (sym given) k.1);
  }

  not_it : (new : LinkHub P L) (link conn : ℕ) → is_live new link ≡ false → is_live new conn ≡ true → conn ≢ link
  not_it new link conn dead e = λ same. true_false (sym e ∙ ap (λ n. is_live new n) same ∙ dead)

  gone_or : (link conn : ℕ) (calls : List Told) (n : ℕ) → gone_count link calls ≡ 0 → (conn ≢ link → gone_count conn calls ≡ n) → n ≡ 1 → (conn ≡ link) ⊎ (conn ≢ link) → gone_count conn (calls ++ Gone link ∷ []) ≡ 1
  gone_or link conn calls n zero else_ one (inl e) = subst (λ k. gone_count k (calls ++ Gone link ∷ []) ≡ 1) (sym e) (omega (arith, count_append link calls (Gone link ∷ []), count_one link, zero))
  gone_or link conn calls n zero else_ one (inr ne) = omega (arith, count_append conn calls (Gone link ∷ []), count_other link conn ne, else_ ne, one)

  -- a link goes
  goes : (hub new : LinkHub P L) (events later : List Event) (link : ℕ) → Tidy hub events → Appends (p.told hub.poller) (Gone link ∷ []) (p.told new.poller) → new.given ≡ hub.given → is_live hub link ≡ true → is_live new link ≡ false → ((conn : ℕ) → conn ≢ link → is_live new conn ≡ is_live hub conn) → Tidy new later
  goes hub new events later link t tells given was dead alike = record {
    calls = t.calls ++ Gone link ∷ [];
    tells = appends_then (p.told from.poller) (p.told hub.poller) (p.told new.poller) t.calls (Gone link ∷ []) t.tells tells;
    open_ = λ conn e.
        let ne = not_it new link conn dead e in
        omega (arith, count_append conn t.calls (Gone link ∷ []), count_other link conn ne, t.open_ conn (sym (alike conn ne) ∙ e));
    gone = λ conn e pos le. gone_or link conn t.calls 1 (t.open_ link was) (λ ne. t.gone conn (sym (alike conn ne) ∙ e) pos (subst (λ n. conn ≤ n) given le)) refl (cases_eq conn link);
    never = λ conn above.
        let over : hub.given < conn = subst (λ n. n < conn) given above in
        let within = (t.known link was).1 in
        omega (arith, count_append conn t.calls (Gone link ∷ []), count_other link conn (λ e. absurd (omega (arith, e, over, within))), t.never conn over);
    known = λ conn e. let k = t.known conn (sym (alike conn (not_it new link conn dead e)) ∙ e) in (k.0, subst (λ n. conn ≤ n) (sym given) k.1);
  }

  -- a link is given, and let go
  beyond : (hub new : LinkHub P L) (events later : List Event) → Tidy hub events → Appends (p.told hub.poller) (Gone (hub.given + 1) ∷ []) (p.told new.poller) → new.given ≡ hub.given + 1 → ((conn : ℕ) → is_live new conn ≡ is_live hub conn) → Tidy new later
  beyond hub new events later t tells given alike =
      let link = hub.given + 1 in
      record {
        calls = t.calls ++ Gone link ∷ [];
        tells = appends_then (p.told from.poller) (p.told hub.poller) (p.told new.poller) t.calls (Gone link ∷ []) t.tells tells;
        open_ = λ conn e.
            let before : is_live hub conn ≡ true = sym (alike conn) ∙ e in
            let within = (t.known conn before).1 in
            omega (arith, count_append conn t.calls (Gone link ∷ []), count_other link conn (λ same. absurd (omega (arith, same, within))), t.open_ conn before);
        gone = λ conn e pos le. gone_or link conn t.calls 1 (t.never link (omega arith)) (λ ne. t.gone conn (sym (alike conn) ∙ e) pos (omega (arith, le, given, ne))) refl (cases_eq conn link);
        never = λ conn above.
            omega (arith, count_append conn t.calls (Gone link ∷ []), count_other link conn (λ same. absurd (omega (arith, same, above, given))), t.never conn (omega (arith, above, given)));
        known = λ conn e. let k = t.known conn (sym (alike conn) ∙ e) in (k.0, omega (arith, k.1, given));
      }

  given_or : (hub new : LinkHub P L) (events : List Event) (t : Tidy hub events) (link conn : ℕ) → link ≡ hub.given + 1 → (conn ≢ link → is_live hub conn ≡ true) → (conn ≡ link) ⊎ (conn ≢ link) → (gone_count conn t.calls ≡ 0) × (0 < conn) × (conn ≤ hub.given + 1)
  given_or hub new events t link conn is was (inl e) = (t.never conn (omega (arith, e, is)), omega (arith, e, is), omega (arith, e, is))
  given_or hub new events t link conn is was (inr ne) = let k = t.known conn (was ne) in (t.open_ conn (was ne), k.0, omega (arith, k.1))

  -- a link is given, and opens
  opens : (hub new : LinkHub P L) (events later : List Event) (link : ℕ) → Tidy hub events → p.told new.poller ≡ p.told hub.poller → link ≡ hub.given + 1 → new.given ≡ link → is_live new link ≡ true → ((conn : ℕ) → conn ≢ link → is_live new conn ≡ is_live hub conn) → Tidy new later
  opens hub new events later link t tells number given lives alike = record {
    calls = t.calls;
    tells = subst (λ w. Appends (p.told from.poller) t.calls w) (sym tells) t.tells;
    open_ = λ conn e. (given_or hub new events t link conn number (λ ne. sym (alike conn ne) ∙ e) (cases_eq conn link)).0;
    gone = λ conn e pos le.
        let ne : conn ≢ link = λ same. true_false (sym lives ∙ ap (λ n. is_live new n) (sym same) ∙ e) in
        t.gone conn (sym (alike conn ne) ∙ e) pos (omega (arith, le, given, number, ne));
    never = λ conn above. t.never conn (omega (arith, above, given, number));
    known = λ conn e. let k = given_or hub new events t link conn number (λ ne. sym (alike conn ne) ∙ e) (cases_eq conn link) in (k.1, omega (arith, k.2, given, number));
  }

  same_live : (hub new : LinkHub P L) → ((conn : ℕ) → live_at new conn ≡ live_at hub conn) → (conn : ℕ) → is_live new conn ≡ is_live hub conn
  same_live hub new same conn = ap (λ o. is_some o) (same conn)

  alive_or : (hub new : LinkHub P L) (link : ℕ) (was now : Live L) → live_at hub link ≡ Some was → IsSet link (Some now) hub.live new.live → (conn : ℕ) → (conn ≡ link) ⊎ (conn ≢ link) → is_live new conn ≡ is_live hub conn
  alive_or hub new link was now found set conn (inl e) = ap (λ n. is_live new n) e ∙ live_of new link now set.here ∙ sym (live_of hub link was found) ∙ sym (ap (λ n. is_live hub n) e)
  alive_or hub new link was now found set conn (inr ne) = ap (λ o. is_some o) (set.elsewhere conn ne)

  -- that a link is read is no end of it
  none_gone : (link : ℕ) (was now : Live L) (calls : List Told) → Reads it p link was now calls → (conn : ℕ) → gone_count conn calls ≡ 0
  none_gone link was now _ (read_later rose) conn = refl
  none_gone link was now _ (read_some same) conn = refl

  tidy_then : (hub : LinkHub P L) (events more : List Event) (new : LinkHub P L) → Tidy hub events → Change it p more hub new → Tidy new (events ++ more)
  tidy_then hub events more new t (unchanged live given told silent) =
      stays hub new events (events ++ more) [] t (appends_same (p.told hub.poller) (p.told new.poller) told) (λ _. refl) given (same_live hub new live)
  tidy_then hub events more new t (moved c was now calls found set given told reads m silent) =
      stays hub new events (events ++ more) calls t told (none_gone c was now calls reads) given (λ conn. alive_or hub new c was now found set conn (cases_eq conn c))
  tidy_then hub events more new t (let_go c was found set given told silent) =
      goes hub new events (events ++ more) c t told given (live_of hub c was found) (not_live_of new c set.here) (λ conn ne. ap (λ o. is_some o) (set.elsewhere conn ne))
  tidy_then hub events more new t (taken c link now fresh set number given told event) =
      opens hub new events (events ++ more) c t told number given (live_of new c now set.here) (λ conn ne. ap (λ o. is_some o) (set.elsewhere conn ne))
  tidy_then hub events more new t (dropped live given told silent) = beyond hub new events (events ++ more) t told given (same_live hub new live)

  fresh : (poller : P) → IsFresh poller from → Tidy from []
  fresh poller f = record {
    calls = [];
    tells = appends_same (p.told from.poller) (p.told from.poller) refl;
    open_ = λ conn e. refl;
    gone = λ conn e pos le. absurd (omega (arith, pos, le, f.given));
    never = λ conn above. refl;
    known = λ conn e. absurd (true_false (sym e ∙ not_live_of from conn (f.none conn)));
  }

  pub run_tells : (poller : P) (to : LinkHub P L) (way_steps : List HubStep) → IsFresh poller from → Leads (λ old step new. LinkStep it p old step new) from way_steps to → TellsGone p from to
  run_tells poller to way_steps f way =
      let t = Changes-keep it p Tidy tidy_then from (fresh poller f) (story way_steps) to (run_changes it p from to way_steps way) in
      record { calls = t.calls; told = t.tells; not_open = t.open_; once = t.gone; none = t.never }
