-- Where memory ran out in the last call of a watch: what its hub was told.
use Rattle.std.proofs.Common.{◌≡◌, ◌||◌, ℕ, ◌-◌, ◌≤◌, false, List, [], ◌∷◌, ◌++◌, length, take, Option, refl, sym, ap, ◌∙◌, subst, arith}
use Rattle.std.proofs.lemmas.List.{append-nil, length-append, take_all, take-append-le}
use Rattle.std.specs.List.{AllByRecursion}
use Rattle.fg_outside.specs.declared.hub.Turn.TheVariants.{Happened, Done, Failed, Memory}
use Rattle.fg_outside.specs.declared.hub.Said.TheVariants as answers
use Rattle.fg_outside.specs.Contents.{Contents}
use Rattle.fg_outside.specs.HubStep.{HubStep, turned, said, closed, Event, told_by, story, Leads, start, next}
use Rattle.fg_links.specs.HubInMemory.{lacks_memory}
use Rattle.watch_hub.specs.declared.watch.Watch.{Watch}
use Rattle.watch_hub.specs.FileWatch.{Keeps}
use Rattle.watch_hub.specs.Watch.{files_in, hub_in, is_spent, waits_in, Does, IsAsked, nothing, in_vain, lost, WatchStep}
use Rattle.watch_hub.specs.WatchedStory.{WatchedPart, WatchedStory}
use Rattle.watch_hub.proofs.Spending.{none_of_two, stays_running}
use Rattle.watch_hub.proofs.Stepping.{tells_first, tells_silent, tells_step, tells_way}

-- what holds of all but the last holds of all before one more
front_holds : {X : Type 0} (P : X → Type 0) (xs : List X) (x : X) → AllByRecursion P (take (length (xs ++ x ∷ []) - 1) (xs ++ x ∷ [])) → AllByRecursion P xs
front_holds {X = X} P xs x all =
    let as_many : length (xs ++ x ∷ []) - 1 ≡ length xs = let both = length-append xs (x ∷ []) in omega (arith, both) in
    subst (λ (l : List X). AllByRecursion P l)
    (ap (λ n. take n (xs ++ x ∷ [])) as_many ∙ take-append-le (length xs) xs (x ∷ []) (omega arith) ∙ take_all (length xs) xs (omega arith))
    all

module _ {H F : Type 0} (may : H → HubStep → H → Type 0) (contents : F → Option Contents) (faults absences : F → ℕ) (joins : (first second : List HubStep) → story (first ++ second) ≡ story first ++ story second) where
  abbrev Tells : Watch H F → List Event → Watch H F → Type 0
  Tells from events to = WatchedStory may contents faults from events to

  abbrev Part : Watch H F → List Event → Watch H F → Type 0
  Part from events to = WatchedPart may contents faults from events to

  -- nothing was lost
  whole : (from to : Watch H F) (events : List Event) → Tells from events to → Part from events to
  whole from to events told = record { until = to; watched = told; lost = []; few = omega arith; hub = record { steps = []; leads = start; is = refl }; counted = omega arith }

  -- what the hub was asked in a turn that found no memory
  asked : (from mid to : Watch H F) (events : List Event) → Tells from events mid → IsAsked may (hub_in mid) (hub_in to) → faults (files_in mid) ≤ faults (files_in to) → Part from events to
  asked from mid to events told (nothing same) more = record {
    until = mid;
    watched = told;
    lost = [];
    few = omega arith;
    hub = record { steps = []; leads = subst (λ (h : H). Leads may (hub_in mid) [] h) (sym same) start; is = refl };
    counted = more;
  }
  asked from mid to events told (in_vain step_may) more = record {
    until = mid;
    watched = told;
    lost = [];
    few = omega arith;
    hub = record { steps = turned Memory ∷ []; leads = next [] (hub_in mid) (turned Memory) (hub_in to) start step_may; is = refl };
    counted = more;
  }
  asked from mid to events told (lost it step_may) more = record {
    until = mid;
    watched = told;
    lost = it ∷ [];
    few = omega arith;
    hub = record { steps = turned (Happened it) ∷ []; leads = next [] (hub_in mid) (turned (Happened it)) (hub_in to) start step_may; is = refl };
    counted = more;
  }

  module _ (from mid to : Watch H F) (events : List Event) (before : Tells from events mid) (running : is_spent mid ≡ false) (keeps : Keeps faults absences mid.file to.file) where
    -- a call that wasn't answered so
    plain : (step : HubStep) → Does may contents faults absences mid step to → is_spent to ≡ (is_spent mid || lacks_memory step) → lacks_memory step ≡ false → Part from (events ++ told_by step) to
    plain step does spends answered =
        whole from to (events ++ told_by step)
        (tells_step may contents faults absences joins from mid to events step before does keeps (spends ∙ none_of_two (is_spent mid) (lacks_memory step) running answered))

    last_call : (step : HubStep) → Does may contents faults absences mid step to → is_spent to ≡ (is_spent mid || lacks_memory step) → Part from (events ++ told_by step) to
    last_call (turned (Happened it)) does spends = plain (turned (Happened it)) does spends refl
    last_call (turned Done) does spends = plain (turned Done) does spends refl
    last_call (turned Failed) does spends = plain (turned Failed) does spends refl
    last_call (turned Memory) does spends =
        asked from mid to (events ++ []) (subst (λ (l : List Event). Tells from l mid) (sym (append-nil events)) before) does.hub keeps.counted_faults
    last_call (said conn piece answers.Taken) does spends = plain (said conn piece answers.Taken) does spends refl
    last_call (said conn piece answers.Gone) does spends = plain (said conn piece answers.Gone) does spends refl
    last_call (said conn piece answers.Memory) does spends =
        let step : HubStep = said conn piece answers.Memory in
        whole from to (events ++ told_by step)
        (tells_silent may contents faults absences joins from mid to events step before refl (does.hub running) (ap (λ (w : Watch H F). w.file) does.went))
    last_call (closed conn) does spends = plain (closed conn) does spends refl

  pub tells_part : (from : Watch H F) → waits_in from ≡ false → is_spent from ≡ false → (steps : List HubStep) (to : Watch H F) → Leads (WatchStep may contents faults absences) from steps to
      → AllByRecursion (λ step. lacks_memory step ≡ false) (take (length steps - 1) steps) → Part from (story steps) to
  tells_part from idle running _ _ start answered = whole from from [] (tells_first may contents faults absences joins from idle)
  tells_part from idle running _ _ (next steps mid step to way may_step) answered =
      let mid_running = stays_running may contents faults absences from running steps mid way (front_holds (λ step. lacks_memory step ≡ false) steps step answered) in
      subst (λ (events : List Event). Part from events to)
      (ap (λ (l : List Event). story steps ++ l) (sym (append-nil (told_by step))) ∙ sym (joins steps (step ∷ [])))
      (last_call from mid to (story steps) (tells_way may contents faults absences joins from idle steps mid way mid_running) mid_running may_step.along.file step may_step.does may_step.spends)
