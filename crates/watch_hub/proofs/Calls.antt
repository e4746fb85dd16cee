-- What holds of each call of a watch holds of each call of its hub.
use Rattle.std.proofs.Common.{◌≡◌, inl, inr, ℕ, Bool, true, false, List, [], ◌∷◌, ◌++◌, Option, sym, ap, ◌∙◌, subst, true≢false}
use Rattle.std.proofs.lemmas.List.{append-nil}
use Rattle.std.specs.List.{AllByRecursion}
use Rattle.fg_outside.specs.declared.hub.Turn.TheVariants.{Happened, Done, Failed, Memory}
use Rattle.fg_outside.specs.declared.hub.Said.TheVariants as answers
use Rattle.fg_outside.specs.Contents.{Contents}
use Rattle.fg_outside.specs.HubStep.{HubStep, turned, said, closed, Event, told_by, story, Leads, start, next}
use Rattle.watch_hub.specs.declared.watch.Watch.{Watch}
use Rattle.watch_hub.specs.Watch.{hub_in, is_spent, waits_in, Does, WatchStep}
use Rattle.watch_hub.specs.WatchedStory.{WatchedStory}
use Rattle.watch_hub.proofs.Spending.{all_push, front_and_last}
use Rattle.watch_hub.proofs.Stepping.{tells_first, tells_step}

module _ {H F : Type 0} (may : H → HubStep → H → Type 0) (contents : F → Option Contents) (faults absences : F → ℕ) (joins : (first second : List HubStep) → story (first ++ second) ≡ story first ++ story second) (holds : HubStep → Bool) where
  -- it holds of a list of calls
  abbrev Hold : List HubStep → Type 0
  Hold steps = AllByRecursion (λ step. holds step ≡ true) steps

  -- a step of the hub of which it holds
  abbrev Held : H → HubStep → H → Type 0
  Held old step new = may old step new × (holds step ≡ true)

  does_held : (old : Watch H F) (step : HubStep) (new : Watch H F) → holds step ≡ true → is_spent new ≡ false → Does may contents faults absences old step new → Does Held contents faults absences old step new
  does_held old (turned (Happened it)) new is running does =
      elim does [
        | inl tells ↦ inl tells
        | inr passes ↦ inr (record { none_waited = passes.none_waited; hub = (passes.hub, is); look = passes.look; no_look = passes.no_look })
      ]
  does_held old (turned Done) new is running does = record { none_waited = does.none_waited; hub = (does.hub, is); went = does.went }
  does_held old (turned Failed) new is running does = record { none_waited = does.none_waited; hub = (does.hub, is); went = does.went }
  does_held old (turned Memory) new is running does = absurd (true≢false (sym does.spent ∙ running))
  does_held old (said conn piece answers.Taken) new is running does = record { hub = (does.hub, is); went = does.went }
  does_held old (said conn piece answers.Gone) new is running does = record { hub = (does.hub, is); went = does.went }
  does_held old (said conn piece answers.Memory) new is running does = absurd (true≢false (sym (ap (λ (w : Watch H F). is_spent w) does.went) ∙ running))
  does_held old (closed conn) new is running does = record { hub = (does.hub, is); went = does.went }

  tells_held : (from : Watch H F) → waits_in from ≡ false → (steps : List HubStep) (to : Watch H F) → Leads (WatchStep may contents faults absences) from steps to → Hold steps → is_spent to ≡ false → WatchedStory Held contents faults from (story steps) to
  tells_held from idle _ _ start all running = tells_first Held contents faults absences joins from idle
  tells_held from idle _ _ (next steps mid step to way may_step) all running =
      let parts = front_and_last (λ step. holds step ≡ true) steps step all in
      subst (λ (events : List Event). WatchedStory Held contents faults from events to)
      (ap (λ (l : List Event). story steps ++ l) (sym (append-nil (told_by step))) ∙ sym (joins steps (step ∷ [])))
      (tells_step Held contents faults absences joins from mid to (story steps) step (tells_held from idle steps mid way parts.0 (may_step.running running))
      (does_held mid step to parts.1 running may_step.does) may_step.along.file running)

  parted : (from : H) (steps : List HubStep) (to : H) → Leads Held from steps to → Leads may from steps to × Hold steps
  parted from _ _ start = (start, tt)
  parted from _ _ (next steps mid step to way held) =
      let before = parted from steps mid way in
      (next steps mid step to before.0 held.0, all_push (λ step. holds step ≡ true) steps step before.1 held.1)

  pub tells_calls : (from to : Watch H F) (steps : List HubStep) → waits_in from ≡ false → is_spent to ≡ false → Hold steps → Leads (WatchStep may contents faults absences) from steps to
      → (told : WatchedStory may contents faults from (story steps) to) × Hold told.hub.steps
  tells_calls from to steps idle running all way =
      let held = tells_held from idle steps to way all running in
      let parts = parted (hub_in from) held.hub.steps (hub_in to) held.hub.leads in (
        record {
          name = held.name;
          every = held.every;
          texts = held.texts;
          hub_events = held.hub_events;
          hub = record { steps = held.hub.steps; leads = parts.0; is = held.hub.is };
          told = held.told;
          put_in = held.put_in;
          looks = held.looks;
          looked = held.looked;
          last = held.last;
          refreshes = held.refreshes;
          are_told = held.are_told;
          few_missed = held.few_missed;
        },
        parts.1,
      )
