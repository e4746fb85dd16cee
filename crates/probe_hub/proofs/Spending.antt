-- Where memory ran out in the last call: what the hub gave and was told.
use Rattle.std.proofs.Common.{◌≡◌, ◌||◌, ℕ, ◌-◌, false, List, [], ◌∷◌, ◌++◌, length, take, Option, refl, sym, ap, ◌∙◌, subst, arith}
use Rattle.std.proofs.lemmas.List.{append-nil, length-append, take_all, take-append-le}
use Rattle.std.specs.List.{AllByRecursion}
use Rattle.fg_outside.specs.declared.hub.Turn.TheVariants.{Happened, Done, Failed, Memory}
use Rattle.fg_outside.specs.declared.hub.Said.TheVariants as answers
use Rattle.fg_outside.specs.HubStep.{HubStep, turned, said, closed, Event, happening, told_by, story, Leads, start, next, Story}
use Rattle.fg_outside.proofs.StoryLemmas.{story-next}
use Rattle.fg_links.specs.HubInMemory.{lacks_memory}
use Rattle.probe_hub.specs.declared.links.Links.{Links}
use Rattle.probe_hub.specs.declared.probe_hub.ProbeHub.{ProbeHub}
use Rattle.probe_hub.specs.Known.{noted_in}
use Rattle.probe_hub.specs.ProbeHub.{hub_in, is_spent, known_in, Does, IsAsked, nothing, in_vain, lost, ProbeStep}
use Rattle.probe_hub.specs.ProbedStory.{ProbedPart, ProbedStory}
use Rattle.probe_hub.proofs.Stepping.{none_of_two, stays_running, story_join, tells_said, tells_start, tells_step, tells_way}

-- what holds of all but the last holds of all before one more
front_holds : {X : Type 0} (P : X → Type 0) (xs : List X) (x : X) → AllByRecursion P (take (length (xs ++ x ∷ []) - 1) (xs ++ x ∷ [])) → AllByRecursion P xs
front_holds {X = X} P xs x all =
    let as_many : length (xs ++ x ∷ []) - 1 ≡ length xs = let both = length-append xs (x ∷ []) in omega (arith, both) in
    subst (λ (l : List X). AllByRecursion P l)
    (ap (λ n. take n (xs ++ x ∷ [])) as_many ∙ take-append-le (length xs) xs (x ∷ []) (omega arith) ∙ take_all (length xs) xs (omega arith))
    all

module _ {H R : Type 0} (may : H → HubStep → H → Type 0) (links_of : R → List ℕ → Option Links) where
  abbrev Tells : ProbeHub H R → List Event → ProbeHub H R → Type 0
  Tells from events to = ProbedStory may links_of from events to

  abbrev Part : ProbeHub H R → List Event → ProbeHub H R → Type 0
  Part from events to = ProbedPart may links_of from events to

  -- nothing was lost
  whole : (from until to : ProbeHub H R) (events : List Event) → Tells from events until → hub_in to ≡ hub_in until → Part from events to
  whole from until to events told same = record {
    until = until;
    probed = told;
    lost = [];
    hub = record { steps = []; leads = subst (λ (h : H). Leads may (hub_in until) [] h) (sym same) start; is = refl };
    are = tt;
  }

  -- what the hub was asked in a turn that found no memory
  asked : (from mid to : ProbeHub H R) (events : List Event) → Tells from events mid → IsAsked may links_of mid (hub_in to) → Part from events to
  asked from mid to events told (nothing same) = whole from mid to events told same
  asked from mid to events told (in_vain step_may) = record {
    until = mid;
    probed = told;
    lost = [];
    hub = record { steps = turned Memory ∷ []; leads = next [] (hub_in mid) (turned Memory) (hub_in to) start step_may; is = refl };
    are = tt;
  }
  asked from mid to events told (lost it behind step_may says) =
      let given : Story may (hub_in mid) (happening it ∷ []) behind = record { steps = turned (Happened it) ∷ []; leads = next [] (hub_in mid) (turned (Happened it)) behind start step_may; is = refl } in
      record {
        until = mid;
        probed = told;
        lost = happening it ∷ says.events;
        hub = story_join may (hub_in mid) behind (hub_in to) (happening it ∷ []) says.events given says.story;
        are = says.are;
      }

  module _ (from mid to : ProbeHub H R) (events : List Event) (before : Tells from events mid) (running : is_spent mid ≡ false) where
    -- a call that wasn't answered so
    plain : (step : HubStep) → Does may links_of mid step to → is_spent to ≡ (is_spent mid || lacks_memory step) → lacks_memory step ≡ false → Part from (events ++ told_by step) to
    plain step does spends answered =
        whole from to to (events ++ told_by step)
        (tells_step may links_of from mid to events step before does (spends ∙ none_of_two may links_of (is_spent mid) (lacks_memory step) running answered)) refl

    last_call : (step : HubStep) → Does may links_of mid step to → is_spent to ≡ (is_spent mid || lacks_memory step) → Part from (events ++ told_by step) to
    last_call (turned (Happened it)) does spends = plain (turned (Happened it)) does spends refl
    last_call (turned Done) does spends = plain (turned Done) does spends refl
    last_call (turned Failed) does spends = plain (turned Failed) does spends refl
    last_call (turned Memory) does spends = asked from mid to (events ++ []) (subst (λ (l : List Event). Tells from l mid) (sym (append-nil events)) before) does.hub
    last_call (said conn piece answers.Taken) does spends = plain (said conn piece answers.Taken) does spends refl
    last_call (said conn piece answers.Gone) does spends = plain (said conn piece answers.Gone) does spends refl
    last_call (said conn piece answers.Memory) does spends =
        let until : ProbeHub H R = record to { known = noted_in conn piece (known_in mid) } in
        whole from until to (events ++ told_by (said conn piece answers.Memory))
        (tells_said may links_of from mid until events conn piece answers.Memory before
        (record { hub = does.hub running; known = refl; reader = ap (λ (it : ProbeHub H R). it.reader) does.went })) refl
    last_call (closed conn) does spends = plain (closed conn) does spends refl

  pub tells_part : (from : ProbeHub H R) → is_spent from ≡ false → (steps : List HubStep) (to : ProbeHub H R) → Leads (ProbeStep may links_of) from steps to
      → AllByRecursion (λ step. lacks_memory step ≡ false) (take (length steps - 1) steps) → Part from (story steps) to
  tells_part from running _ _ start answered = whole from from from [] (tells_start may links_of from) refl
  tells_part from running _ _ (next steps mid step to way may_step) answered =
      let mid_running = stays_running may links_of from running steps mid way (front_holds (λ step. lacks_memory step ≡ false) steps step answered) in
      subst (λ (events : List Event). Part from events to) (sym (story-next steps step))
      (last_call from mid to (story steps) (tells_way may links_of from steps mid way mid_running) mid_running step may_step.does may_step.spends)
