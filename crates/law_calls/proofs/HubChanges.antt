-- What each call of a hub of links changes of its links, and of the ends that wait to be told.
use Rattle.std.proofs.Common.{◌≡◌, ◌≢◌, ◌⊎◌, ℕ, ◌<◌, ◌≤◌, List, [], Option, Some, None, refl, sym, ◌∙◌, ap, subst, inl, inr, arith}
use Rattle.std.proofs.lemmas.Bool.{cases_eq}
use Rattle.fg_outside.specs.HubStep.{HubStep, turned, said, closed, Leads}
use Rattle.fg_outside.specs.HubStep as way
use Rattle.fg_outside.specs.declared.hub.EndCause.{EndCause}
use Rattle.fg_outside.specs.declared.hub.Happening.TheVariants.{Opened, Heard, Closed, Reload}
use Rattle.fg_outside.specs.declared.hub.Happening.TheVariants as happenings
use Rattle.fg_outside.specs.declared.hub.Turn.{Turn}
use Rattle.fg_outside.specs.declared.hub.Turn.TheVariants.{Happened, Done, Failed, Memory}
use Rattle.fg_outside.specs.declared.hub.Said.TheVariants as answers
use Rattle.fg_links.specs.declared.link.Link as link
use Rattle.fg_links.specs.declared.next.Next.{Next}
use Rattle.fg_links.specs.declared.next.Next.TheVariants as nexts
use Rattle.fg_links.specs.declared.poller.Poller as poller
use Rattle.link_hub.specs.declared.hub.LinkHub.{LinkHub}
use Rattle.link_hub.specs.declared.live.Live.{Live}
use Rattle.link_hub.specs.Links.{IsNew, Sends}
use Rattle.link_hub.specs.Hub.{Asks, DoesNext, IsFresh, IsSet, LinkStep, Passes, ServesLink, TakesLink, Turns, asked, empty, ended_at, live_at, most_empty, most_open, next, open_count, spent, start, told}

pub some_same : {A : Type 0} (a b : A) (o : Option A) → o ≡ Some a → o ≡ Some b → b ≡ a
some_same a b o e h = cc

pub none_some : {A : Type 0} (a : A) (o : Option A) → o ≡ None → o ≡ Some a → ⊥
none_some a o e h = cc

module _ {P L : Type 0} (it : link.Ghosts L) (p : poller.Ghosts P L) where
  pub live_of : (new other : LinkHub P L) → new ≡ other → (conn : ℕ) → live_at new conn ≡ live_at other conn
  live_of new other e conn = ap (λ (hub : LinkHub P L). live_at hub conn) e

  pub ended_of : (new other : LinkHub P L) → new ≡ other → (conn : ℕ) → ended_at new conn ≡ ended_at other conn
  ended_of new other e conn = ap (λ (hub : LinkHub P L). ended_at hub conn) e

  pub opened_same : (was now : Live L) → now.opened ≡ was.opened → now.opened.value ≡ was.opened.value
  opened_same was now e = cc

  -- ---- an answer of the poller

  -- what it changes of the links: nothing, one is served, one ends, one opens
  pub data Effect (turn : Option Turn) (old new : LinkHub P L) : Type 0 where
    unchanged : ((conn : ℕ) → live_at new conn ≡ live_at old conn) → Effect turn old new
    serves : (conn : ℕ) (was is : Live L) → live_at old conn ≡ Some was → IsSet conn (Some is) old.live new.live → Sends it [] was is → Effect turn old new
    ends : (conn : ℕ) (cause : EndCause) → IsSet conn None old.live new.live → turn ≡ Some (Happened (Closed conn cause)) → Effect turn old new
    opens : (conn : ℕ) (came : L) (now : Live L) → IsNew came now → IsSet conn (Some now) old.live new.live → open_count old < most_open → turn ≡ Some (Happened (Opened conn)) → Effect turn old new

  -- beside that no end comes to wait
  abbrev pub Changed : Option Turn → LinkHub P L → LinkHub P L → Type 0
  Changed turn old new = Effect turn old new × ((conn : ℕ) → ended_at new conn ≡ ended_at old conn)

  takes_change : (old new : LinkHub P L) (came : L) (turn : Option Turn) → TakesLink p came old turn new → Changed turn old new
  takes_change old new came None (inl h) = (unchanged (live_of new _ h.rest), ended_of new _ h.rest)
  takes_change old new came None (inr h) = (unchanged (live_of new _ h.rest), ended_of new _ h.rest)
  takes_change old new came (Some (Happened (Opened conn))) h = (opens conn came h.live h.fresh h.set h.room refl, ended_of new _ h.rest)
  takes_change old new came (Some (Happened (Heard conn piece))) h = absurd h
  takes_change old new came (Some (Happened (Closed conn cause))) h = absurd h
  takes_change old new came (Some (Happened (happenings.Moment moment))) h = absurd h
  takes_change old new came (Some (Happened (Reload text))) h = absurd h
  takes_change old new came (Some Done) h = absurd h
  takes_change old new came (Some Failed) h = absurd h
  takes_change old new came (Some Memory) h = (unchanged h.same, ended_of new _ h.rest)

  serves_change : (old new : LinkHub P L) (conn : ℕ) (turn : Option Turn) → ServesLink it p conn old turn new → Changed turn old new
  serves_change old new conn None (inl h) = (unchanged (live_of new _ h.1), ended_of new _ h.1)
  serves_change old new conn None (inr h) = (serves conn h.was h.is h.found h.set h.sends, ended_of new _ h.rest)
  serves_change old new conn (Some (Happened (Opened c))) h = absurd h
  serves_change old new conn (Some (Happened (Heard c piece))) h = (serves conn h.1.was h.1.is h.1.found h.1.set h.1.sends, ended_of new _ h.1.rest)
  serves_change old new conn (Some (Happened (Closed c cause))) h = (
    ends conn cause h.1.set (ap (λ (n : ℕ). Some (Happened (Closed n cause))) h.0),
    ended_of new _ h.1.rest,
  )
  serves_change old new conn (Some (Happened (happenings.Moment moment))) h = absurd h
  serves_change old new conn (Some (Happened (Reload text))) h = absurd h
  serves_change old new conn (Some Done) h = absurd h
  serves_change old new conn (Some Failed) h = absurd h
  serves_change old new conn (Some Memory) h = (unchanged (live_of new _ h), ended_of new _ h)

  does_change : (old new : LinkHub P L) (answer : Next L) (turn : Option Turn) → DoesNext it p answer old turn new → Changed turn old new
  does_change old new (nexts.New came) turn h = takes_change old new came turn h
  does_change old new (nexts.Ready conn) turn h = serves_change old new conn turn h
  does_change old new (nexts.Moment moment) turn h = (unchanged (live_of new _ h.1), ended_of new _ h.1)
  does_change old new nexts.Stop turn h = (unchanged (live_of new _ h.1), ended_of new _ h.1)
  does_change old new nexts.Failed turn h = (unchanged (live_of new _ h.1), ended_of new _ h.1)

  -- the hub that asked has the links and the ends of the one before
  as_before : (old new : LinkHub P L) (after : P) (turn : Option Turn) → Effect turn (record old { poller = after }) new → Effect turn old new
  as_before old new after turn (unchanged live) = unchanged live
  as_before old new after turn (serves conn was is found set sends) = serves conn was is found set sends
  as_before old new after turn (ends conn cause set is) = ends conn cause set is
  as_before old new after turn (opens conn came now fresh set room is) = opens conn came now fresh set room is

  pub asks_change : (old : LinkHub P L) (turn : Option Turn) (new : LinkHub P L) → Asks it p old turn new → Changed turn old new
  asks_change old turn new a =
      let change = does_change (record old { poller = a.asked }) new a.answer turn a.does in
      (as_before old new a.asked turn change.0, change.1)

  -- ---- answers that give no turn

  pub passes_ended : (old : LinkHub P L) (n : ℕ) (to : LinkHub P L) → Passes it p old n to → (conn : ℕ) → ended_at to conn ≡ ended_at old conn
  passes_ended old _ _ start conn = refl
  passes_ended old _ _ (next n mid to came asks) conn = (asks_change mid None to asks).1 conn ∙ passes_ended old n mid came conn

  -- an open link was open, and no count of its faults fell
  pub record Carried (old : LinkHub P L) (conn : ℕ) (now : Live L) : Type 0 where
    pub was : Live L
    pub found : live_at old conn ≡ Some was
    pub opened : now.opened ≡ was.opened
    pub faults : it.faults was.link ≤ it.faults now.link

  carried_same : (old new : LinkHub P L) (conn : ℕ) (now : Live L) → live_at new conn ≡ live_at old conn → live_at new conn ≡ Some now → Carried old conn now
  carried_same old new conn now same is = record { was = now; found = sym same ∙ is; opened = refl; faults = omega arith }

  carried_or : (old new : LinkHub P L) (c : ℕ) (was next_ : Live L) → live_at old c ≡ Some was → IsSet c (Some next_) old.live new.live → Sends it [] was next_ → (conn : ℕ) (now : Live L) → live_at new conn ≡ Some now → (conn ≡ c) ⊎ (conn ≢ c) → Carried old conn now
  carried_or old new c was next_ found set sends conn now is (inl e) =
      let here : live_at new c ≡ Some now = ap (λ n. live_at new n) (sym e) ∙ is in
      let same : now ≡ next_ = some_same next_ now (live_at new c) set.here here in
      subst (λ (l : Live L). Carried old conn l) (sym same) (record { was = was; found = ap (λ n. live_at old n) e ∙ found; opened = sends.opened; faults = sends.faults })
  carried_or old new c was next_ found set sends conn now is (inr ne) = carried_same old new conn now (set.elsewhere conn ne) is

  carried_by : (old new : LinkHub P L) → Effect None old new → (conn : ℕ) (now : Live L) → live_at new conn ≡ Some now → Carried old conn now
  carried_by old new (unchanged live) conn now is = carried_same old new conn now (live conn) is
  carried_by old new (serves c was next_ found set sends) conn now is = carried_or old new c was next_ found set sends conn now is (cases_eq conn c)
  carried_by old new (ends c cause set e) conn now is = absurd (let no : ◌≡◌ {A = Option Turn} None (Some (Happened (Closed c cause))) = e in cc)
  carried_by old new (opens c came next_ fresh set room e) conn now is = absurd (let no : ◌≡◌ {A = Option Turn} None (Some (Happened (Opened c))) = e in cc)

  carried_then : (old mid : LinkHub P L) (conn : ℕ) (now : Live L) → Carried mid conn now → ((was : Live L) → live_at mid conn ≡ Some was → Carried old conn was) → Carried old conn now
  carried_then old mid conn now c before =
      let b = before c.was c.found in
      record { was = b.was; found = b.found; opened = c.opened ∙ b.opened; faults = omega (arith, b.faults, c.faults) }

  pub kept : (old : LinkHub P L) (n : ℕ) (to : LinkHub P L) → Passes it p old n to → (conn : ℕ) (now : Live L) → live_at to conn ≡ Some now → Carried old conn now
  kept old _ _ start conn now is = carried_same old old conn now refl is
  kept old _ _ (next n mid to came asks) conn now is =
      carried_then old mid conn now (carried_by mid to (asks_change mid None to asks).0 conn now is) (λ was found. kept old n mid came conn was found)

  -- ---- faults since a link opened

  abbrev pub HasGrown : LinkHub P L → Type 0
  HasGrown hub = (conn : ℕ) (live : Live L) → live_at hub conn ≡ Some live → it.faults live.opened.value ≤ it.faults live.link

  grown_by : (old : LinkHub P L) → HasGrown old → (conn : ℕ) (now : Live L) → Carried old conn now → it.faults now.opened.value ≤ it.faults now.link
  grown_by old grown conn now c =
      let was = grown conn c.was c.found in
      let same = ap (λ (o : L). it.faults o) (opened_same c.was now c.opened) in
      omega (arith, was, same, c.faults)

  grown_same : (old new : LinkHub P L) → HasGrown old → ((conn : ℕ) → live_at new conn ≡ live_at old conn) → HasGrown new
  grown_same old new grown same = λ conn live is. grown conn live (sym (same conn) ∙ is)

  gone_or : (old new : LinkHub P L) (c : ℕ) → HasGrown old → IsSet c None old.live new.live → (conn : ℕ) (now : Live L) → live_at new conn ≡ Some now → (conn ≡ c) ⊎ (conn ≢ c) → it.faults now.opened.value ≤ it.faults now.link
  gone_or old new c grown set conn now is (inl e) = absurd (none_some now (live_at new c) set.here (ap (λ n. live_at new n) (sym e) ∙ is))
  gone_or old new c grown set conn now is (inr ne) = grown conn now (sym (set.elsewhere conn ne) ∙ is)

  grown_gone : (old new : LinkHub P L) (c : ℕ) → HasGrown old → IsSet c None old.live new.live → HasGrown new
  grown_gone old new c grown set = λ conn now is. gone_or old new c grown set conn now is (cases_eq conn c)

  new_or : (old new : LinkHub P L) (c : ℕ) (came : L) (fresh : Live L) → HasGrown old → IsNew came fresh → IsSet c (Some fresh) old.live new.live → (conn : ℕ) (now : Live L) → live_at new conn ≡ Some now → (conn ≡ c) ⊎ (conn ≢ c) → it.faults now.opened.value ≤ it.faults now.link
  new_or old new c came fresh grown is_new set conn now is (inl e) =
      let here : live_at new c ≡ Some now = ap (λ n. live_at new n) (sym e) ∙ is in
      let same : now ≡ fresh = some_same fresh now (live_at new c) set.here here in
      let equal = ap (λ (o : L). it.faults o) (is_new.opened ∙ sym is_new.link) in
      subst (λ (l : Live L). it.faults l.opened.value ≤ it.faults l.link) (sym same) (omega (arith, equal))
  new_or old new c came fresh grown is_new set conn now is (inr ne) = grown conn now (sym (set.elsewhere conn ne) ∙ is)

  sent_or : (old new : LinkHub P L) (c : ℕ) (was next_ : Live L) → HasGrown old → live_at old c ≡ Some was → IsSet c (Some next_) old.live new.live → next_.opened ≡ was.opened → it.faults was.link ≤ it.faults next_.link → (conn : ℕ) (now : Live L) → live_at new conn ≡ Some now → (conn ≡ c) ⊎ (conn ≢ c) → it.faults now.opened.value ≤ it.faults now.link
  sent_or old new c was next_ grown found set opened faults conn now is (inl e) =
      let here : live_at new c ≡ Some now = ap (λ n. live_at new n) (sym e) ∙ is in
      let same : now ≡ next_ = some_same next_ now (live_at new c) set.here here in
      let before = grown c was found in
      let equal = ap (λ (o : L). it.faults o) (opened_same was next_ opened) in
      subst (λ (l : Live L). it.faults l.opened.value ≤ it.faults l.link) (sym same) (omega (arith, before, equal, faults))
  sent_or old new c was next_ grown found set opened faults conn now is (inr ne) = grown conn now (sym (set.elsewhere conn ne) ∙ is)

  effect_grown : (turn : Option Turn) (old new : LinkHub P L) → HasGrown old → Effect turn old new → HasGrown new
  effect_grown turn old new grown (unchanged live) = grown_same old new grown live
  effect_grown turn old new grown (serves c was next_ found set sends) = λ conn now is. sent_or old new c was next_ grown found set sends.opened sends.faults conn now is (cases_eq conn c)
  effect_grown turn old new grown (ends c cause set e) = grown_gone old new c grown set
  effect_grown turn old new grown (opens c came fresh is_new set room e) = λ conn now is. new_or old new c came fresh grown is_new set conn now is (cases_eq conn c)

  passes_grown : (old : LinkHub P L) (n : ℕ) (to : LinkHub P L) → HasGrown old → Passes it p old n to → HasGrown to
  passes_grown old n to grown passes = λ conn now is. grown_by old grown conn now (kept old n to passes conn now is)

  turns_grown : (old : LinkHub P L) (turn : Turn) (new : LinkHub P L) → HasGrown old → Turns it p old turn new → HasGrown new
  turns_grown old _ _ grown (spent is) = grown
  turns_grown old _ _ grown (told conn cause new running tells) = grown_same old new grown (live_of new _ tells.rest)
  turns_grown old _ _ grown (asked n mid turn new running idle few passes asks) = effect_grown (Some turn) mid new (passes_grown old n mid grown passes) (asks_change mid (Some turn) new asks).0
  turns_grown old _ _ grown (empty new running idle passes) = passes_grown old most_empty new grown passes

  step_grown : (old : LinkHub P L) (step : HubStep) (new : LinkHub P L) → HasGrown old → LinkStep it p old step new → HasGrown new
  step_grown old (turned turn) new grown may = turns_grown old turn new grown may
  step_grown old (said c piece answers.Taken) new grown (running, h) = λ conn now is. sent_or old new c h.was h.is grown h.found h.set h.takes.sends.opened h.takes.sends.faults conn now is (cases_eq conn c)
  step_grown old (said c piece answers.Gone) new grown (running, inl h) = grown_same old new grown (live_of new _ h.1)
  step_grown old (said c piece answers.Gone) new grown (running, inr h) = grown_gone old new c grown h.ends.set
  step_grown old (said c piece answers.Memory) new grown (inl h) = grown_same old new grown (live_of new _ h.1)
  step_grown old (said c piece answers.Memory) new grown (inr (running, h)) = elim h.either [
    | inl same ↦ grown_same old new grown same.0
    | inr end ↦ grown_gone old new c grown end.1.set
  ]
  step_grown old (closed c) new grown may = grown_gone old new c grown may.set

  pub run_grown : (poller : P) (from : LinkHub P L) → IsFresh poller from → (steps : List HubStep) (to : LinkHub P L) → Leads (λ old step new. LinkStep it p old step new) from steps to → HasGrown to
  run_grown poller from fresh _ _ way.start = λ conn live is. absurd (none_some live (live_at from conn) (fresh.none conn) is)
  run_grown poller from fresh _ _ (way.next steps mid step to came may) = step_grown mid step to (run_grown poller from fresh steps mid came) may
