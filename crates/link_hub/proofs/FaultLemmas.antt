-- Where a connection ends by a fault of its link.
use Rattle.std.proofs.Common.{◌≡◌, ◌≢◌, ◌⊎◌, ℕ, ◌≤◌, Bool, true, false, List, [], ◌∷◌, ◌++◌, Some, None, sym, ◌∙◌, ap, subst, inl, inr}
use Rattle.std.proofs.lemmas.Bool.{cases_eq}
use Rattle.std.specs.Ordering.{nat_cmp}
use Rattle.std.specs.BTreeMap.{BTreeMap, get}
use Rattle.fg_outside.specs.Counts.{Rose}
use Rattle.fg_outside.specs.HubStep.{HubStep, turned, said, closed, Leads, start, next}
use Rattle.fg_outside.proofs.CountLemmas.{Rose-since}
use Rattle.fg_outside.specs.declared.hub.EndCause.{EndCause}
use Rattle.fg_outside.specs.declared.hub.EndCause.TheVariants.{End, LinkFault, Overfull}
use Rattle.fg_outside.specs.declared.hub.Happening.TheVariants.{Closed}
use Rattle.fg_outside.specs.declared.hub.Happening.TheVariants as happenings
use Rattle.fg_outside.specs.declared.hub.Turn.{Turn}
use Rattle.fg_outside.specs.declared.hub.Turn.TheVariants.{Happened, Done, Failed, Memory}
use Rattle.fg_outside.specs.declared.hub.Said.TheVariants as answers
use Rattle.fg_links.specs.declared.link.Link as link
use Rattle.fg_links.specs.declared.next.Next.{Next}
use Rattle.fg_links.specs.declared.next.Next.TheVariants as nexts
use Rattle.fg_links.specs.declared.poller.Poller as poller
use Rattle.link_hub.specs.declared.hub.LinkHub.{LinkHub}
use Rattle.link_hub.specs.declared.live.Live.{Live}
use Rattle.link_hub.specs.Links.{Says}
use Rattle.link_hub.specs.Hub.{live_at, ended_at, most_empty, IsSet, IsFresh, Ends, EndsLater, DoesNext, Turns, spent, told, asked, empty, SaysStep, LinkStep}
use Rattle.link_hub.specs.Runs.{IsFault, OneCall, in_last, in_earlier}
use Rattle.link_hub.proofs.ChangeLemmas.{ended_of, asks_change, passes_ended}
use Rattle.link_hub.proofs.RunLemmas.{some_same, none_some, opened_same, run_served}
use Rattle.link_hub.proofs.WriteLemmas.{kept}

running_spent : (spent_ : Bool) → spent_ ≡ false → spent_ ≡ true → ⊥
running_spent spent_ e h = cc

-- another entry than the one that is taken out
entry_or : {X : Type 0} (conn c : ℕ) (value : X) (old new : BTreeMap ℕ X) → IsSet c None old new → get nat_cmp new conn ≡ Some value → (conn ≡ c) ⊎ (conn ≢ c) → get nat_cmp old conn ≡ Some value
entry_or conn c value old new set is (inl e) = absurd (none_some value (get nat_cmp new c) set.here (ap (λ n. get nat_cmp new n) (sym e) ∙ is))
entry_or conn c value old new set is (inr ne) = sym (set.elsewhere conn ne) ∙ is

module _ {P L : Type 0} (it : link.Ghosts L) (p : poller.Ghosts P L) where
  -- a step that the hub may take
  abbrev May : LinkHub P L → HubStep → LinkHub P L → Type 0
  May = λ old step new. LinkStep it p old step new

  fault_at : (old new : LinkHub P L) (conn : ℕ) (was last : Live L) → live_at old conn ≡ Some was → it.faults was.opened.value ≤ it.faults was.link → last.opened ≡ was.opened → Rose (it.faults was.link) (it.faults last.link) → live_at new conn ≡ None → IsFault it conn old new
  fault_at old new conn was last found le opened rose gone = record {
    was = was;
    last = last;
    found = found;
    opened = opened;
    rose =
        subst (λ (l : L). Rose (it.faults l) (it.faults last.link)) (sym (opened_same it p was last opened))
        (Rose-since (it.faults was.opened.value) (it.faults was.link) (it.faults last.link) le rose);
    gone = gone;
  }

  -- ---- the ends that wait

  -- what waits behind a turn waited before
  turn_waits : (old : LinkHub P L) (turn : Turn) (new : LinkHub P L) (conn : ℕ) → Turns it p old turn new → new.spent ≡ false → ended_at new conn ≡ Some LinkFault → (old.spent ≡ false) × (ended_at old conn ≡ Some LinkFault)
  turn_waits old _ _ conn (spent is) up waits = absurd (running_spent old.spent up is)
  turn_waits old _ _ conn (told c cause new running h) up waits = (running, entry_or conn c LinkFault old.ended new.ended h.set waits (cases_eq conn c))
  turn_waits old _ _ conn (asked n mid turn new running idle few way asks) up waits =
      (running, sym ((asks_change it p mid (Some turn) new asks).1 conn ∙ passes_ended it p old n mid way conn) ∙ waits)
  turn_waits old _ _ conn (empty new running idle way) up waits = (running, sym (passes_ended it p old most_empty new way conn) ∙ waits)

  says_fault : (old new : LinkHub P L) (conn : ℕ) (piece : List ℕ) (was last : Live L) (cause : EndCause) → cause ≡ LinkFault → live_at old conn ≡ Some was → it.faults was.opened.value ≤ it.faults was.link → Says it piece was (Some cause) last → live_at new conn ≡ None → IsFault it conn old new
  says_fault old new conn piece was last LinkFault e found le why gone = fault_at old new conn was last found le why.sends.opened why.fault gone
  says_fault old new conn piece was last End e found le why gone = absurd (let no : End ≡ LinkFault = e in cc)
  says_fault old new conn piece was last Overfull e found le why gone = absurd (let no : Overfull ≡ LinkFault = e in cc)

  module _ (poller : P) (from : LinkHub P L) (fresh : IsFresh poller from) where
    -- a fault that waits to be told is one of a call before
    abbrev Waits : List HubStep → LinkHub P L → ℕ → Type 0
    Waits steps hub conn = hub.spent ≡ false → ended_at hub conn ≡ Some LinkFault → OneCall May (IsFault it conn) from steps hub

    faults_since : (steps : List HubStep) (hub : LinkHub P L) → Leads May from steps hub → (conn : ℕ) (was : Live L) → live_at hub conn ≡ Some was → it.faults was.opened.value ≤ it.faults was.link
    faults_since steps hub way conn was found = (run_served it p poller from hub steps fresh way conn was found).faults

    later_or : (steps : List HubStep) (old new : LinkHub P L) (conn c : ℕ) (piece : List ℕ) → Leads May from steps old → Waits steps old conn → (running : old.spent ≡ false) → (may : SaysStep it p c piece old answers.Gone new) → (h : EndsLater it p c piece old new) → ended_at new conn ≡ Some LinkFault → (conn ≡ c) ⊎ (conn ≢ c) → OneCall May (IsFault it conn) from (steps ++ said c piece answers.Gone ∷ []) new
    later_or steps old new conn c piece way before running may h waits (inl e) =
        let at_c : ended_at new c ≡ Some LinkFault = ap (λ n. ended_at new n) (sym e) ∙ waits in
        let cause : h.cause ≡ LinkFault = some_same LinkFault h.cause (ended_at new c) at_c h.later.here in
        in_last steps old (said c piece answers.Gone) new way may
        (subst (λ n. IsFault it n old new) (sym e) (says_fault old new c piece h.ends.was h.ends.last h.cause cause h.ends.found (faults_since steps old way c h.ends.was h.ends.found) h.ends.why h.ends.set.here))
    later_or steps old new conn c piece way before running may h waits (inr ne) =
        in_earlier steps old (said c piece answers.Gone) new (before running (sym (h.later.elsewhere conn ne) ∙ waits)) may

    spent_same : (new other : LinkHub P L) → new ≡ other → new.spent ≡ other.spent
    spent_same new other e = ap (λ (hub : LinkHub P L). hub.spent) e

    step_waits : (steps : List HubStep) (old : LinkHub P L) (step : HubStep) (new : LinkHub P L) (conn : ℕ) → Leads May from steps old → Waits steps old conn → May old step new → Waits (steps ++ step ∷ []) new conn
    step_waits steps old (turned turn) new conn way before may up waits =
        let was = turn_waits old turn new conn may up waits in
        in_earlier steps old (turned turn) new (before was.0 was.1) may
    step_waits steps old (said c piece answers.Taken) new conn way before may up waits =
        in_earlier steps old (said c piece answers.Taken) new (before may.0 (sym (ended_of it p new _ may.1.rest conn) ∙ waits)) may
    step_waits steps old (said c piece answers.Gone) new conn way before (running, inl h) up waits =
        in_earlier steps old (said c piece answers.Gone) new (before running (sym (ended_of it p new _ h.1 conn) ∙ waits)) (running, inl h)
    step_waits steps old (said c piece answers.Gone) new conn way before (running, inr h) up waits =
        later_or steps old new conn c piece way before running (running, inr h) h waits (cases_eq conn c)
    step_waits steps old (said c piece answers.Memory) new conn way before (inl h) up waits = absurd (running_spent new.spent up (spent_same new _ h.1 ∙ h.0))
    step_waits steps old (said c piece answers.Memory) new conn way before (inr h) up waits = absurd (running_spent new.spent up h.1.spent)
    step_waits steps old (closed c) new conn way before may up waits =
        in_earlier steps old (closed c) new (before (sym (spent_same new _ may.rest) ∙ up) (entry_or conn c LinkFault old.ended new.ended may.ended waits (cases_eq conn c))) may

    run_waits : (steps : List HubStep) (to : LinkHub P L) (conn : ℕ) → Leads May from steps to → Waits steps to conn
    run_waits _ _ conn start = λ up waits. absurd (none_some LinkFault (ended_at from conn) (fresh.ended conn) waits)
    run_waits _ _ conn (next steps mid step to way may) = step_waits steps mid step to conn way (run_waits steps mid conn way) may

    -- ---- an end that is told

    closes_by : (mid new : LinkHub P L) (after : P) (answer : Next L) (conn : ℕ) → DoesNext it p answer (record mid { poller = after }) (Some (Happened (Closed conn LinkFault))) new → Ends it p conn LinkFault (record mid { poller = after }) new
    closes_by mid new after (nexts.New came) conn h = absurd h
    closes_by mid new after (nexts.Ready c) conn h = subst (λ n. Ends it p n LinkFault (record mid { poller = after }) new) (sym h.0) h.1
    closes_by mid new after (nexts.Moment moment) conn h = absurd (let no : Some (Happened (Closed conn LinkFault)) ≡ Some (Happened (happenings.Moment moment)) = h.0 in cc)
    closes_by mid new after nexts.Stop conn h = absurd (let no : Some (Happened (Closed conn LinkFault)) ≡ Some Done = h.0 in cc)
    closes_by mid new after nexts.Failed conn h = absurd (let no : Some (Happened (Closed conn LinkFault)) ≡ Some Failed = h.0 in cc)

    pub told_fault : (steps : List HubStep) (old : LinkHub P L) (turn : Turn) (new : LinkHub P L) (conn : ℕ) → Leads May from steps old → (call : Turns it p old turn new) → turn ≡ Happened (Closed conn LinkFault) → OneCall May (IsFault it conn) from (steps ++ turned turn ∷ []) new
    told_fault steps old _ _ conn way (spent is) e = absurd (let no : Memory ≡ Happened (Closed conn LinkFault) = e in cc)
    told_fault steps old _ _ conn way (told c cause new running h) e =
        let same_conn : c ≡ conn = cc in
        let same_cause : cause ≡ LinkFault = cc in
        let ended : ended_at old conn ≡ Some LinkFault = ap (λ n. ended_at old n) (sym same_conn) ∙ h.ended ∙ ap (λ (x : EndCause). Some x) same_cause in
        in_earlier steps old (turned (Happened (Closed c cause))) new (run_waits steps old conn way running ended) (told c cause new running h)
    told_fault steps old _ _ conn way (asked n mid turn new running idle few passes asks) e =
        let h = closes_by mid new asks.asked asks.answer conn (subst (λ (t : Turn). DoesNext it p asks.answer (record mid { poller = asks.asked }) (Some t) new) e asks.does) in
        let c = kept it p old n mid passes conn h.was h.found in
        in_last steps old (turned turn) new way (asked n mid turn new running idle few passes asks)
        (fault_at old new conn c.was h.last c.found (faults_since steps old way conn c.was c.found) (h.sends.opened ∙ c.sends.opened)
        (Rose-since (it.faults c.was.link) (it.faults h.was.link) (it.faults h.last.link) c.sends.faults h.why) h.set.here)
    told_fault steps old _ _ conn way (empty new running idle passes) e = absurd (let no : Happened (happenings.Moment new.moment) ≡ Happened (Closed conn LinkFault) = e in cc)
