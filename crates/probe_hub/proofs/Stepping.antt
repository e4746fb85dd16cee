-- Steps of a hub whose links are probed, one behind the other.
use Rattle.std.proofs.Common.{◌≡◌, ◌||◌, inl, inr, ℕ, Bool, false, List, [], ◌∷◌, ◌++◌, Option, refl, sym, ap, ◌∙◌, subst, append_assoc, true≢false}
use Rattle.std.proofs.lemmas.List.{append-nil}
use Rattle.std.specs.List.{AllByRecursion}
use Rattle.fg_outside.specs.declared.hub.Happening.{Happening}
use Rattle.fg_outside.specs.declared.hub.Turn.{Turn}
use Rattle.fg_outside.specs.declared.hub.Turn.TheVariants.{Happened, Done, Failed, Memory}
use Rattle.fg_outside.specs.declared.hub.Said.{Said}
use Rattle.fg_outside.specs.declared.hub.Said.TheVariants as answers
use Rattle.fg_outside.specs.HubStep.{HubStep, turned, said, closed, Event, happening, saying, closing, told_by, story, Leads, start, next, Story}
use Rattle.fg_outside.proofs.StoryLemmas.{story-append, story-next, Leads-append, Story-start, Story-next}
use Rattle.fg_links.specs.HubInMemory.{lacks_memory}
use Rattle.probe_hub.specs.declared.known.Known.{Known}
use Rattle.probe_hub.specs.declared.links.Links.{Links}
use Rattle.probe_hub.specs.declared.probe_hub.ProbeHub.{ProbeHub}
use Rattle.probe_hub.specs.Known.{after, gone, next_told, noted_in, taken}
use Rattle.probe_hub.specs.ProbeHub.{hub_in, is_spent, known_in, reader_in, Calls, Does, EndsWith, Passes, ProbeStep, TellsFirst}
use Rattle.probe_hub.specs.ProbedStory.{Probed, ProbedStory, start as at_first, first as told_first, passes as passed_on, waits as in_vain, says as said_on, closes as closed_on}

-- a story behind a story
pub story_join : {H : Type 0} (may : H → HubStep → H → Type 0) (from mid to : H) (xs ys : List Event) → Story may from xs mid → Story may mid ys to → Story may from (xs ++ ys) to
story_join may from mid to xs ys a b = record {
  steps = a.steps ++ b.steps;
  leads = Leads-append may from mid a.steps a.leads b.steps to b.leads;
  is = story-append a.steps b.steps ∙ ap (λ (l : List Event). l ++ story b.steps) a.is ∙ ap (λ (l : List Event). xs ++ l) b.is;
}

module _ {H R : Type 0} (may : H → HubStep → H → Type 0) (links_of : R → List ℕ → Option Links) where
  abbrev Tells : ProbeHub H R → List Event → ProbeHub H R → Type 0
  Tells from events to = ProbedStory may links_of from events to

  pub tells_start : (it : ProbeHub H R) → Tells it [] it
  tells_start it = record { reader = refl; hub_events = []; hub = Story-start may (hub_in it); probed = at_first }

  -- a turn that gives no happening
  tells_none : (from mid to : ProbeHub H R) (events : List Event) (answer : Turn) → told_by (turned answer) ≡ [] → Tells from events mid → EndsWith may answer mid to → Tells from (events ++ told_by (turned answer)) to
  tells_none from mid to events answer silent before ends =
      subst (λ (l : List Event). Tells from l to) (sym (ap (λ (l : List Event). events ++ l) silent ∙ append-nil events))
      (record {
        reader = ends.reader ∙ before.reader;
        hub_events = before.hub_events;
        hub =
            subst (λ (l : List Event). Story may (hub_in from) l (hub_in to)) (ap (λ (l : List Event). before.hub_events ++ l) silent ∙ append-nil before.hub_events)
            (Story-next may (hub_in from) (hub_in mid) (hub_in to) before.hub_events (turned answer) before.hub ends.hub);
        probed =
            subst (λ (k : Known). Probed (links_of (reader_in from)) (known_in from) before.hub_events events k) (sym ends.known)
            (in_vain before.hub_events events (known_in mid) before.probed ends.has_told);
      })

  tells_first : (from mid to : ProbeHub H R) (events : List Event) (it : Happening) → Tells from events mid → TellsFirst mid it to → Tells from (events ++ happening it ∷ []) to
  tells_first from mid to events it before tells = record {
    reader = tells.reader ∙ before.reader;
    hub_events = before.hub_events;
    hub = subst (λ (h : H). Story may (hub_in from) before.hub_events h) (sym tells.hub) before.hub;
    probed = told_first before.hub_events events (known_in mid) (known_in to) it before.probed (sym tells.told);
  }

  tells_passed : (from mid to : ProbeHub H R) (events : List Event) (given : Happening) → Tells from events mid → Passes may links_of mid given to → Tells from (events ++ happening given ∷ []) to
  tells_passed from mid to events given before passes = record {
    reader = passes.reader ∙ before.reader;
    hub_events = before.hub_events ++ happening passes.it ∷ passes.says.events;
    hub =
        subst (λ (l : List Event). Story may (hub_in from) l (hub_in to)) (append_assoc before.hub_events (happening passes.it ∷ []) passes.says.events)
        (story_join may (hub_in from) passes.mid (hub_in to) (before.hub_events ++ happening passes.it ∷ []) passes.says.events
        (Story-next may (hub_in from) (hub_in mid) passes.mid before.hub_events (turned (Happened passes.it)) before.hub passes.hub) passes.says.story);
    probed =
        passed_on before.hub_events events passes.says.events (known_in mid) (known_in to) passes.it given before.probed passes.has_told
        (sym (passes.known ∙ ap (λ (r : R). after (links_of r) passes.it (next_told (taken (known_in mid))).0) before.reader)) passes.says.are;
  }

  pub tells_said : (from mid to : ProbeHub H R) (events : List Event) (conn : ℕ) (piece : List ℕ) (answer : Said) → Tells from events mid → Calls may (said conn piece answer) (noted_in conn piece) mid to
      → Tells from (events ++ saying conn piece answer ∷ []) to
  tells_said from mid to events conn piece answer before calls = record {
    reader = calls.reader ∙ before.reader;
    hub_events = before.hub_events ++ saying conn piece answer ∷ [];
    hub = Story-next may (hub_in from) (hub_in mid) (hub_in to) before.hub_events (said conn piece answer) before.hub calls.hub;
    probed =
        subst (λ (k : Known). Probed (links_of (reader_in from)) (known_in from) (before.hub_events ++ saying conn piece answer ∷ []) (events ++ saying conn piece answer ∷ []) k) (sym calls.known)
        (said_on before.hub_events events (known_in mid) conn piece answer before.probed);
  }

  tells_closed : (from mid to : ProbeHub H R) (events : List Event) (conn : ℕ) → Tells from events mid → Calls may (closed conn) (gone conn) mid to → Tells from (events ++ closing conn ∷ []) to
  tells_closed from mid to events conn before calls = record {
    reader = calls.reader ∙ before.reader;
    hub_events = before.hub_events ++ closing conn ∷ [];
    hub = Story-next may (hub_in from) (hub_in mid) (hub_in to) before.hub_events (closed conn) before.hub calls.hub;
    probed =
        subst (λ (k : Known). Probed (links_of (reader_in from)) (known_in from) (before.hub_events ++ closing conn ∷ []) (events ++ closing conn ∷ []) k) (sym calls.known)
        (closed_on before.hub_events events (known_in mid) conn before.probed);
  }

  pub tells_step : (from mid to : ProbeHub H R) (events : List Event) (step : HubStep) → Tells from events mid → Does may links_of mid step to → is_spent to ≡ false → Tells from (events ++ told_by step) to
  tells_step from mid to events (turned (Happened it)) before does running =
      elim does [
        | inl tells ↦ tells_first from mid to events it before tells
        | inr passes ↦ tells_passed from mid to events it before passes
      ]
  tells_step from mid to events (turned Done) before does running = tells_none from mid to events Done refl before does
  tells_step from mid to events (turned Failed) before does running = tells_none from mid to events Failed refl before does
  tells_step from mid to events (turned Memory) before does running = absurd (true≢false (sym does.spent ∙ running))
  tells_step from mid to events (said conn piece answers.Taken) before does running = tells_said from mid to events conn piece answers.Taken before does
  tells_step from mid to events (said conn piece answers.Gone) before does running = tells_said from mid to events conn piece answers.Gone before does
  tells_step from mid to events (said conn piece answers.Memory) before does running = absurd (true≢false (sym (ap (λ (w : ProbeHub H R). is_spent w) does.went) ∙ running))
  tells_step from mid to events (closed conn) before does running = tells_closed from mid to events conn before does

  pub tells_way : (from : ProbeHub H R) (steps : List HubStep) (to : ProbeHub H R) → Leads (ProbeStep may links_of) from steps to → is_spent to ≡ false → Tells from (story steps) to
  tells_way from _ _ start running = tells_start from
  tells_way from _ _ (next steps mid step to way may_step) running =
      subst (λ (l : List Event). Tells from l to) (sym (story-next steps step))
      (tells_step from mid to (story steps) step (tells_way from steps mid way (may_step.running running)) may_step.does running)

  -- ---- whether memory ran out, and the hub

  pub none_of_two : (a b : Bool) → a ≡ false → b ≡ false → (a || b) ≡ false
  none_of_two a b x y = rw (x, y) refl

  front_and_last : (P : HubStep → Type 0) (xs : List HubStep) (x : HubStep) → AllByRecursion P (xs ++ x ∷ []) → AllByRecursion P xs × P x
  front_and_last P [] x all = (tt, all.0)
  front_and_last P (y ∷ ys) x all = let rest = front_and_last P ys x all.1 in ((all.0, rest.0), rest.1)

  pub stays_running : (from : ProbeHub H R) → is_spent from ≡ false → (steps : List HubStep) (to : ProbeHub H R) → Leads (ProbeStep may links_of) from steps to
      → AllByRecursion (λ step. lacks_memory step ≡ false) steps → is_spent to ≡ false
  stays_running from running _ _ start answered = running
  stays_running from running _ _ (next steps mid step to way may_step) answered =
      let parts = front_and_last (λ step. lacks_memory step ≡ false) steps step answered in
      may_step.spends ∙ none_of_two (is_spent mid) (lacks_memory step) (stays_running from running steps mid way parts.0) parts.1

  pub hub_way : (from : ProbeHub H R) (steps : List HubStep) (to : ProbeHub H R) → Leads (ProbeStep may links_of) from steps to → (way : List HubStep) × Leads may (hub_in from) way (hub_in to)
  hub_way from _ _ start = ([], start)
  hub_way from _ _ (next steps mid step to way may_step) =
      let before = hub_way from steps mid way in
      (before.0 ++ may_step.along.way, Leads-append may (hub_in from) (hub_in mid) before.0 before.1 may_step.along.way (hub_in to) may_step.along.leads)
