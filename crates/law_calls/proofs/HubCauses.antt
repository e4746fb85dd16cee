-- Why a hub of links refuses, and why connections end.
use Rattle.std.proofs.Common.{◌≡◌, ◌≢◌, ◌⊎◌, ℕ, ◌≤◌, Bool, true, false, List, [], ◌∷◌, ◌++◌, drop, Option, Some, None, refl, sym, ◌∙◌, ap, subst, inl, inr}
use Rattle.std.specs.List.{AllByRecursion}
use Rattle.std.specs.Option.{option_map}
use Rattle.std.specs.Ordering.{nat_cmp}
use Rattle.std.specs.BTreeMap.{BTreeMap, get}
use Rattle.std.proofs.lemmas.Bool.{cases_eq}
use Rattle.fg_outside.specs.Counts.{Rose}
use Rattle.fg_outside.specs.HubStep.{HubStep, turned, said, closed, Leads, start, next}
use Rattle.fg_outside.proofs.CountLemmas.{Rose-since}
use Rattle.fg_outside.specs.declared.hub.EndCause.{EndCause}
use Rattle.fg_outside.specs.declared.hub.EndCause.TheVariants.{End, LinkFault, Overfull}
use Rattle.fg_outside.specs.declared.hub.Happening.TheVariants.{Closed}
use Rattle.fg_outside.specs.declared.hub.Happening.TheVariants as happenings
use Rattle.fg_outside.specs.declared.hub.Turn.{Turn}
use Rattle.fg_outside.specs.declared.hub.Turn.TheVariants.{Happened, Done, Failed, Memory}
use Rattle.fg_outside.specs.declared.hub.Said.TheVariants as answers
use Rattle.fg_links.specs.declared.link.Link as link
use Rattle.fg_links.specs.declared.next.Next.{Next}
use Rattle.fg_links.specs.declared.next.Next.TheVariants as nexts
use Rattle.fg_links.specs.declared.next.MemNext.{MemNext}
use Rattle.fg_links.specs.declared.next.MemNext.TheVariants as mem
use Rattle.fg_links.specs.declared.poller.Poller as poller
use Rattle.fg_links.specs.HubInMemory.{lacks_memory, refuses}
use Rattle.fg_links.specs.Nexts.{next_of}
use Rattle.link_hub.specs.declared.hub.LinkHub.{LinkHub}
use Rattle.link_hub.specs.declared.live.Live.{Live}
use Rattle.link_hub.specs.Links.{Says}
use Rattle.link_hub.specs.Hub.{DoesNext, Ends, EndsBy, EndsLater, IsFresh, IsSet, LinkStep, SaysStep, Turns, asked, empty, ended_at, live_at, most_empty, poller_of, spent, told}
use Rattle.law_calls.proofs.HubChanges.{asks_change, ended_of, kept, none_some, opened_same, passes_ended, run_grown, some_same}
use Rattle.law_calls.specs.Links.{IsEnd, OneStep, SayCause, TurnCause, in_earlier, in_last, link_failed, not_open, too_much}

running_spent : (spent_ : Bool) → spent_ ≡ false → spent_ ≡ true → ⊥
running_spent spent_ e h = cc

-- another entry than the one that is taken out
entry_or : {X : Type 0} (conn c : ℕ) (value : X) (old new : BTreeMap ℕ X) → IsSet c None old new → get nat_cmp new conn ≡ Some value → (conn ≡ c) ⊎ (conn ≢ c) → get nat_cmp old conn ≡ Some value
entry_or conn c value old new set is (inl e) = absurd (none_some value (get nat_cmp new c) set.here (ap (λ n. get nat_cmp new n) (sym e) ∙ is))
entry_or conn c value old new set is (inr ne) = sym (set.elsewhere conn ne) ∙ is

-- ---- a poller that stops

stops : {L : Type 0} (list : List (MemNext L)) → nexts.Stop ≡ next_of list → list ≡ []
stops [] is = refl
stops {L = L} (mem.New link ∷ rest) is = absurd (let no : ◌≡◌ {A = Next L} nexts.Stop (nexts.New link) = is in cc)
stops {L = L} (mem.Ready link ∷ rest) is = absurd (let no : ◌≡◌ {A = Next L} nexts.Stop (nexts.Ready link) = is in cc)
stops {L = L} (mem.Moment moment ∷ rest) is = absurd (let no : ◌≡◌ {A = Next L} nexts.Stop (nexts.Moment moment) = is in cc)

none_left : {L : Type 0} (before after : Option (List (MemNext L))) → ((list : List (MemNext L)) → before ≡ Some list → nexts.Stop ≡ next_of list) → after ≡ option_map (drop 1) before
    → (list : List (MemNext L)) → after ≡ Some list → list ≡ []
none_left None after tells onward list is = absurd (none_some list after onward is)
none_left {L = L} (Some before) after tells onward list is =
    let nothing : before ≡ [] = stops before (tells before refl) in
    let last : after ≡ Some [] = onward ∙ ap (λ (l : List (MemNext L)). Some (drop 1 l)) nothing in
    some_same [] list after last is

module _ {P L : Type 0} (it : link.Ghosts L) (p : poller.Ghosts P L) where
  poller_same : (new other : LinkHub P L) → new ≡ other → new.poller ≡ other.poller
  poller_same new other e = ap (λ (hub : LinkHub P L). hub.poller) e

  spent_same : (new other : LinkHub P L) → new ≡ other → new.spent ≡ other.spent
  spent_same new other e = ap (λ (hub : LinkHub P L). hub.spent) e

  done_next : (mid new : LinkHub P L) (after : P) (answer : Next L) → ((list : List (MemNext L)) → answer ≢ nexts.Failed → p.ahead mid.poller ≡ Some list → answer ≡ next_of list) → (answer ≢ nexts.Failed → p.ahead after ≡ option_map (drop 1) (p.ahead mid.poller))
      → DoesNext it p answer (record mid { poller = after }) (Some Done) new → (list : List (MemNext L)) → p.ahead new.poller ≡ Some list → list ≡ []
  done_next mid new after (nexts.New came) tells onward does list is = absurd does
  done_next mid new after (nexts.Ready conn) tells onward does list is = absurd does
  done_next mid new after (nexts.Moment moment) tells onward does list is = absurd (let no : Some Done ≡ Some (Happened (happenings.Moment moment)) = does.0 in cc)
  done_next mid new after nexts.Stop tells onward does list is =
      let other : ◌≢◌ {A = Next L} nexts.Stop nexts.Failed = λ e. absurd (let no : ◌≡◌ {A = Next L} nexts.Stop nexts.Failed = e in cc) in
      none_left (p.ahead mid.poller) (p.ahead after) (λ l before. tells l other before) (onward other) list (sym (ap (λ (x : P). p.ahead x) (poller_same new _ does.1)) ∙ is)
  done_next mid new after nexts.Failed tells onward does list is = absurd (let no : Some Done ≡ Some Failed = does.0 in cc)

  done_cause : (old : LinkHub P L) (turn : Turn) (new : LinkHub P L) → Turns it p old turn new → turn ≡ Done → (list : List (MemNext L)) → p.ahead new.poller ≡ Some list → list ≡ []
  done_cause old _ _ (spent is) e = absurd (let no : Memory ≡ Done = e in cc)
  done_cause old _ _ (told conn cause new running tells) e = absurd (let no : Happened (Closed conn cause) ≡ Done = e in cc)
  done_cause old _ _ (asked n mid turn new running idle few way asks) e =
      done_next mid new asks.asked asks.answer (λ list other before. asks.answers.next other list before) asks.answers.onward
      (subst (λ (t : Turn). DoesNext it p asks.answer (record mid { poller = asks.asked }) (Some t) new) e asks.does)
  done_cause old _ _ (empty new running idle way) e = absurd (let no : Happened (happenings.Moment new.moment) ≡ Done = e in cc)

  pub turn_cause : (old : LinkHub P L) (turn : Turn) (new : LinkHub P L) → Turns it p old turn new → (turn ≡ Failed → Rose (p.faults (poller_of old)) (p.faults (poller_of new))) → TurnCause p old turn new
  turn_cause old (Happened happening) new turns failed = tt
  turn_cause old Done new turns failed = done_cause old Done new turns refl
  turn_cause old Failed new turns failed = failed refl
  turn_cause old Memory new turns failed = tt

  -- ---- a piece that isn't taken

  ends_cause : (old new : LinkHub P L) (conn : ℕ) (piece : List ℕ) (was last : Live L) (cause : EndCause) → live_at old conn ≡ Some was → Says it piece was (Some cause) last → SayCause it conn piece old new
  ends_cause old new conn piece was last End found why = absurd why
  ends_cause old new conn piece was last LinkFault found why = link_failed was last found why.fault
  ends_cause old new conn piece was last Overfull found why = too_much was found why.0

  pub say_cause : (old new : LinkHub P L) (conn : ℕ) (piece : List ℕ) → SaysStep it p conn piece old answers.Gone new → SayCause it conn piece old new
  say_cause old new conn piece (running, inl shut) = not_open shut.0 shut.1
  say_cause old new conn piece (running, inr later) = ends_cause old new conn piece later.ends.was later.ends.last later.cause later.ends.found later.ends.why

  -- ---- want of memory

  out_next : (mid new : LinkHub P L) (answer : Next L) → DoesNext it p answer mid (Some Memory) new → new.spent ≡ true
  out_next mid new (nexts.New came) does = spent_same new _ does.rest
  out_next mid new (nexts.Ready conn) does = spent_same new _ does
  out_next mid new (nexts.Moment moment) does = absurd (let no : Some Memory ≡ Some (Happened (happenings.Moment moment)) = does.0 in cc)
  out_next mid new nexts.Stop does = absurd (let no : Some Memory ≡ Some Done = does.0 in cc)
  out_next mid new nexts.Failed does = absurd (let no : Some Memory ≡ Some Failed = does.0 in cc)

  out_turn : (old : LinkHub P L) (turn : Turn) (new : LinkHub P L) → Turns it p old turn new → turn ≡ Memory → new.spent ≡ true
  out_turn old _ _ (spent is) e = is
  out_turn old _ _ (told conn cause new running tells) e = absurd (let no : Happened (Closed conn cause) ≡ Memory = e in cc)
  out_turn old _ _ (asked n mid turn new running idle few way asks) e =
      out_next (record mid { poller = asks.asked }) new asks.answer (subst (λ (t : Turn). DoesNext it p asks.answer (record mid { poller = asks.asked }) (Some t) new) e asks.does)
  out_turn old _ _ (empty new running idle way) e = absurd (let no : Happened (happenings.Moment new.moment) ≡ Memory = e in cc)

  pub out_step : (old : LinkHub P L) (step : HubStep) (new : LinkHub P L) → LinkStep it p old step new → lacks_memory step ≡ true → new.spent ≡ true
  out_step old (turned (Happened happening)) new may lacks = absurd (let no : false ≡ true = lacks in cc)
  out_step old (turned Done) new may lacks = absurd (let no : false ≡ true = lacks in cc)
  out_step old (turned Failed) new may lacks = absurd (let no : false ≡ true = lacks in cc)
  out_step old (turned Memory) new may lacks = out_turn old Memory new may refl
  out_step old (said conn piece answers.Taken) new may lacks = absurd (let no : false ≡ true = lacks in cc)
  out_step old (said conn piece answers.Gone) new may lacks = absurd (let no : false ≡ true = lacks in cc)
  out_step old (said conn piece answers.Memory) new (inl was) lacks = spent_same new _ was.1 ∙ was.0
  out_step old (said conn piece answers.Memory) new (inr out) lacks = out.1.spent
  out_step old (closed conn) new may lacks = absurd (let no : false ≡ true = lacks in cc)

  -- a spent hub
  abbrev Refuses : HubStep → LinkHub P L → Type 0
  Refuses step new = (refuses step ≡ true) × (new.spent ≡ true)

  spent_turn : (old : LinkHub P L) (turn : Turn) (new : LinkHub P L) → old.spent ≡ true → Turns it p old turn new → Refuses (turned turn) new
  spent_turn old _ _ up (spent is) = (refl, is)
  spent_turn old _ _ up (told conn cause new running tells) = absurd (running_spent old.spent running up)
  spent_turn old _ _ up (asked n mid turn new running idle few way asks) = absurd (running_spent old.spent running up)
  spent_turn old _ _ up (empty new running idle way) = absurd (running_spent old.spent running up)

  spent_step : (old : LinkHub P L) (step : HubStep) (new : LinkHub P L) → old.spent ≡ true → LinkStep it p old step new → Refuses step new
  spent_step old (turned turn) new up may = spent_turn old turn new up may
  spent_step old (said conn piece answers.Taken) new up may = absurd (running_spent old.spent may.0 up)
  spent_step old (said conn piece answers.Gone) new up may = absurd (running_spent old.spent may.0 up)
  spent_step old (said conn piece answers.Memory) new up (inl was) = (refl, spent_same new _ was.1 ∙ was.0)
  spent_step old (said conn piece answers.Memory) new up (inr out) = absurd (running_spent old.spent out.0 up)
  spent_step old (closed conn) new up may = (refl, spent_same new _ may.rest ∙ up)

  all_then : (steps : List HubStep) (step : HubStep) → AllByRecursion (λ s. refuses s ≡ true) steps → refuses step ≡ true → AllByRecursion (λ s. refuses s ≡ true) (steps ++ step ∷ [])
  all_then [] step all is = (is, tt)
  all_then (s ∷ steps) step all is = (all.0, all_then steps step all.1 is)

  spent_run : (from : LinkHub P L) → from.spent ≡ true → (steps : List HubStep) (to : LinkHub P L) → Leads (λ old step new. LinkStep it p old step new) from steps to → AllByRecursion (λ s. refuses s ≡ true) steps × (to.spent ≡ true)
  spent_run from up _ _ start = (tt, up)
  spent_run from up _ _ (next steps mid step to way may) =
      let before = spent_run from up steps mid way in
      let last = spent_step mid step to before.1 may in
      (all_then steps step before.0 last.0, last.1)

  pub all_refused : (old : LinkHub P L) (step : HubStep) (mid : LinkHub P L) (steps : List HubStep) (to : LinkHub P L) → lacks_memory step ≡ true → LinkStep it p old step mid
      → Leads (λ old step new. LinkStep it p old step new) mid steps to → AllByRecursion (λ s. refuses s ≡ true) steps
  all_refused old step mid steps to lacks may way = (spent_run mid (out_step old step mid may lacks) steps to way).0

  -- ---- ends

  abbrev May : LinkHub P L → HubStep → LinkHub P L → Type 0
  May = λ old step new. LinkStep it p old step new

  fault_since : (was last : Live L) → it.faults was.opened.value ≤ it.faults was.link → last.opened ≡ was.opened → Rose (it.faults was.link) (it.faults last.link) → Rose (it.faults last.opened.value) (it.faults last.link)
  fault_since was last le opened rose =
      subst (λ (l : L). Rose (it.faults l) (it.faults last.link)) (sym (opened_same it p was last opened))
      (Rose-since (it.faults was.opened.value) (it.faults was.link) (it.faults last.link) le rose)

  says_end : (old new : LinkHub P L) (conn : ℕ) (piece : List ℕ) (was last : Live L) (cause : EndCause) → live_at old conn ≡ Some was → it.faults was.opened.value ≤ it.faults was.link → Says it piece was (Some cause) last → live_at new conn ≡ None
      → IsEnd it conn cause old (said conn piece answers.Gone) new
  says_end old new conn piece was last End found le why gone = absurd why
  says_end old new conn piece was last LinkFault found le why gone = record {
    was = was;
    last = last;
    found = found;
    opened = why.sends.opened;
    why = fault_since was last le why.sends.opened why.fault;
    gone = gone;
  }
  says_end old new conn piece was last Overfull found le why gone = record {
    was = was;
    last = was;
    found = found;
    opened = refl;
    why = (piece, refl, why.0);
    gone = gone;
  }

  -- what waits behind a turn waited before
  turn_waits : (old : LinkHub P L) (turn : Turn) (new : LinkHub P L) (conn : ℕ) (cause : EndCause) → Turns it p old turn new → new.spent ≡ false → ended_at new conn ≡ Some cause → (old.spent ≡ false) × (ended_at old conn ≡ Some cause)
  turn_waits old _ _ conn cause (spent is) up waits = absurd (running_spent old.spent up is)
  turn_waits old _ _ conn cause (told c why new running h) up waits = (running, entry_or conn c cause old.ended new.ended h.set waits (cases_eq conn c))
  turn_waits old _ _ conn cause (asked n mid turn new running idle few way asks) up waits =
      (running, sym ((asks_change it p mid (Some turn) new asks).1 conn ∙ passes_ended it p old n mid way conn) ∙ waits)
  turn_waits old _ _ conn cause (empty new running idle way) up waits = (running, sym (passes_ended it p old most_empty new way conn) ∙ waits)

  module _ (poller : P) (from : LinkHub P L) (fresh : IsFresh poller from) where
    -- an end that waits to be told is one of a call before
    abbrev Waits : List HubStep → LinkHub P L → ℕ → Type 0
    Waits steps hub conn = hub.spent ≡ false → (cause : EndCause) → ended_at hub conn ≡ Some cause → OneStep May (IsEnd it conn cause) from steps hub

    faults_since : (steps : List HubStep) (hub : LinkHub P L) → Leads May from steps hub → (conn : ℕ) (was : Live L) → live_at hub conn ≡ Some was → it.faults was.opened.value ≤ it.faults was.link
    faults_since steps hub way conn was found = run_grown it p poller from fresh steps hub way conn was found

    later_or : (steps : List HubStep) (old new : LinkHub P L) (conn c : ℕ) (piece : List ℕ) (cause : EndCause) → Leads May from steps old → Waits steps old conn → (running : old.spent ≡ false) → (may : SaysStep it p c piece old answers.Gone new)
        → (h : EndsLater it p c piece old new) → ended_at new conn ≡ Some cause → (conn ≡ c) ⊎ (conn ≢ c) → OneStep May (IsEnd it conn cause) from (steps ++ said c piece answers.Gone ∷ []) new
    later_or steps old new conn c piece cause way before running may h waits (inl e) =
        let at_c : ended_at new c ≡ Some cause = ap (λ n. ended_at new n) (sym e) ∙ waits in
        let same : h.cause ≡ cause = some_same cause h.cause (ended_at new c) at_c h.later.here in
        in_last steps old (said c piece answers.Gone) new way may
        (subst (λ n. IsEnd it n cause old (said c piece answers.Gone) new) (sym e)
        (subst (λ (x : EndCause). IsEnd it c x old (said c piece answers.Gone) new) same
        (says_end old new c piece h.ends.was h.ends.last h.cause h.ends.found (faults_since steps old way c h.ends.was h.ends.found) h.ends.why h.ends.set.here)))
    later_or steps old new conn c piece cause way before running may h waits (inr ne) =
        in_earlier steps old (said c piece answers.Gone) new (before running cause (sym (h.later.elsewhere conn ne) ∙ waits)) may

    step_waits : (steps : List HubStep) (old : LinkHub P L) (step : HubStep) (new : LinkHub P L) (conn : ℕ) → Leads May from steps old → Waits steps old conn → May old step new → Waits (steps ++ step ∷ []) new conn
    step_waits steps old (turned turn) new conn way before may up cause waits =
        let was = turn_waits old turn new conn cause may up waits in
        in_earlier steps old (turned turn) new (before was.0 cause was.1) may
    step_waits steps old (said c piece answers.Taken) new conn way before may up cause waits =
        in_earlier steps old (said c piece answers.Taken) new (before may.0 cause (sym (ended_of it p new _ may.1.rest conn) ∙ waits)) may
    step_waits steps old (said c piece answers.Gone) new conn way before (running, inl h) up cause waits =
        in_earlier steps old (said c piece answers.Gone) new (before running cause (sym (ended_of it p new _ h.1 conn) ∙ waits)) (running, inl h)
    step_waits steps old (said c piece answers.Gone) new conn way before (running, inr h) up cause waits =
        later_or steps old new conn c piece cause way before running (running, inr h) h waits (cases_eq conn c)
    step_waits steps old (said c piece answers.Memory) new conn way before (inl h) up cause waits = absurd (running_spent new.spent up (spent_same new _ h.1 ∙ h.0))
    step_waits steps old (said c piece answers.Memory) new conn way before (inr h) up cause waits = absurd (running_spent new.spent up h.1.spent)
    step_waits steps old (closed c) new conn way before may up cause waits =
        in_earlier steps old (closed c) new (before (sym (spent_same new _ may.rest) ∙ up) cause (entry_or conn c cause old.ended new.ended may.ended waits (cases_eq conn c))) may

    run_waits : (steps : List HubStep) (to : LinkHub P L) (conn : ℕ) → Leads May from steps to → Waits steps to conn
    run_waits _ _ conn start = λ up cause waits. absurd (none_some cause (ended_at from conn) (fresh.ended conn) waits)
    run_waits _ _ conn (next steps mid step to way may) = step_waits steps mid step to conn way (run_waits steps mid conn way) may

    closes_by : (mid new : LinkHub P L) (after : P) (answer : Next L) (conn : ℕ) (cause : EndCause) → DoesNext it p answer (record mid { poller = after }) (Some (Happened (Closed conn cause))) new → Ends it p conn cause (record mid { poller = after }) new
    closes_by mid new after (nexts.New came) conn cause h = absurd h
    closes_by mid new after (nexts.Ready c) conn cause h = subst (λ n. Ends it p n cause (record mid { poller = after }) new) (sym h.0) h.1
    closes_by mid new after (nexts.Moment moment) conn cause h = absurd (let no : Some (Happened (Closed conn cause)) ≡ Some (Happened (happenings.Moment moment)) = h.0 in cc)
    closes_by mid new after nexts.Stop conn cause h = absurd (let no : Some (Happened (Closed conn cause)) ≡ Some Done = h.0 in cc)
    closes_by mid new after nexts.Failed conn cause h = absurd (let no : Some (Happened (Closed conn cause)) ≡ Some Failed = h.0 in cc)

    -- a link that ended in this call, where it was so before it
    ready_end : (old new : LinkHub P L) (turn : Turn) (conn : ℕ) (cause : EndCause) (first was last : Live L) → live_at old conn ≡ Some first → it.faults first.opened.value ≤ it.faults first.link → last.opened ≡ first.opened → it.faults first.link ≤ it.faults was.link
        → EndsBy it cause was last → live_at new conn ≡ None → IsEnd it conn cause old (turned turn) new
    ready_end old new turn conn End first was last found le opened since why gone = record { was = first; last = last; found = found; opened = opened; why = why; gone = gone }
    ready_end old new turn conn LinkFault first was last found le opened since why gone = record {
      was = first;
      last = last;
      found = found;
      opened = opened;
      why = fault_since first last le opened (Rose-since (it.faults first.link) (it.faults was.link) (it.faults last.link) since why);
      gone = gone;
    }
    ready_end old new turn conn Overfull first was last found le opened since why gone = absurd why

    pub told_end : (steps : List HubStep) (old : LinkHub P L) (turn : Turn) (new : LinkHub P L) (conn : ℕ) (cause : EndCause) → Leads May from steps old → (call : Turns it p old turn new) → turn ≡ Happened (Closed conn cause) → OneStep May (IsEnd it conn cause) from (steps ++ turned turn ∷ []) new
    told_end steps old _ _ conn cause way (spent is) e = absurd (let no : Memory ≡ Happened (Closed conn cause) = e in cc)
    told_end steps old _ _ conn cause way (told c why new running h) e =
        let same_conn : c ≡ conn = cc in
        let same_cause : why ≡ cause = cc in
        let ended : ended_at old conn ≡ Some cause = ap (λ n. ended_at old n) (sym same_conn) ∙ h.ended ∙ ap (λ (x : EndCause). Some x) same_cause in
        in_earlier steps old (turned (Happened (Closed c why))) new (run_waits steps old conn way running cause ended) (told c why new running h)
    told_end steps old _ _ conn cause way (asked n mid turn new running idle few passes asks) e =
        let h = closes_by mid new asks.asked asks.answer conn cause (subst (λ (t : Turn). DoesNext it p asks.answer (record mid { poller = asks.asked }) (Some t) new) e asks.does) in
        let c = kept it p old n mid passes conn h.was h.found in
        in_last steps old (turned turn) new way (asked n mid turn new running idle few passes asks)
        (ready_end old new turn conn cause c.was h.was h.last c.found (faults_since steps old way conn c.was c.found) (h.sends.opened ∙ c.opened) c.faults h.why h.set.here)
    told_end steps old _ _ conn cause way (empty new running idle passes) e = absurd (let no : Happened (happenings.Moment new.moment) ≡ Happened (Closed conn cause) = e in cc)
