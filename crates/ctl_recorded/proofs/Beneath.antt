-- The hub beneath a recorded one, where a run went on behind each call.
use Rattle.std.proofs.Common.{◌≡◌, ◌≢◌, ◌≤◌, inl, inr, ℕ, true, List, [], ◌∷◌, ◌++◌, Option, refl, sym, ap, ◌∙◌, arith, true≢false}
use Rattle.std.specs.List.{AllByRecursion}
use Rattle.fg_outside.specs.declared.hub.Turn.TheVariants as turns
use Rattle.fg_outside.specs.declared.hub.Said.TheVariants as answers
use Rattle.fg_outside.specs.HubStep.{HubStep, Leads, closed, next, said, start, turned}
use Rattle.recording_hub.specs.declared.recording_hub.RecordingHub.{RecordingHub}
use Rattle.recording_hub.specs.RecordingHub.{Does, RecordingStep, hub_in, sink_in}
use Rattle.hub_drive.specs.Driving.{Deed}
use Rattle.hub_drive.specs.Driven.{Tells, goes_on}

-- what holds of all of a list holds of its front and of its last
pub front_and_last : {X : Type 0} (P : X → Type 0) (xs : List X) (x : X) → AllByRecursion P (xs ++ x ∷ []) → AllByRecursion P xs × P x
front_and_last P [] x all = (tt, all.0)
front_and_last P (y ∷ ys) x all =
    let rest = front_and_last P ys x all.1 in
    ((all.0, rest.0), rest.1)

pub goes_on_not_failed : (step : HubStep) → goes_on step ≡ true → step ≢ turned turns.Failed
goes_on_not_failed step goes is = true≢false (sym goes ∙ ap goes_on is)

module _ {H S : Type 0} (may : H → HubStep → H → Type 0) (hub_faults : H → ℕ) (wrote : S → Option (List ℕ)) (faults : S → ℕ) where
  abbrev pub Step : RecordingHub H S → HubStep → RecordingHub H S → Type 0
  Step = RecordingStep may hub_faults wrote faults

  -- the hub is called in the same way
  beneath : (old new : RecordingHub H S) (step : HubStep) → goes_on step ≡ true → Does may wrote faults old step new → may (hub_in old) step (hub_in new)
  beneath old new (turned (turns.Happened it)) goes does = does.hub
  beneath old new (turned turns.Done) goes does = absurd cc
  beneath old new (turned turns.Failed) goes does = absurd cc
  beneath old new (turned turns.Memory) goes does = absurd cc
  beneath old new (said conn piece answers.Taken) goes does = does.hub
  beneath old new (said conn piece answers.Gone) goes does = does.hub
  beneath old new (said conn piece answers.Memory) goes does = absurd cc
  beneath old new (closed conn) goes does = elim does [ inl closes ↦ closes.hub | inr unnoted ↦ unnoted.hub ]

  pub all_beneath : (from : RecordingHub H S) (steps : List HubStep) (to : RecordingHub H S) → AllByRecursion (λ step. goes_on step ≡ true) steps → Leads Step from steps to → Leads may (hub_in from) steps (hub_in to)
  all_beneath from _ _ went_on start = start
  all_beneath from _ _ went_on (next steps mid step to way may_step) =
      let both = front_and_last (λ step. goes_on step ≡ true) steps step went_on in
      next steps (hub_in mid) step (hub_in to) (all_beneath from steps mid both.0 way) (beneath mid to step both.1 may_step.does)

  pub tells_beneath : (from mid : RecordingHub H S) (ds : List Deed) → Tells Step from ds mid → Tells may (hub_in from) ds (hub_in mid)
  tells_beneath from mid ds tells = record {
    steps = tells.steps;
    leads = all_beneath from tells.steps mid tells.went_on tells.leads;
    deeds = tells.deeds;
    went_on = tells.went_on;
  }

  -- ---- counts

  pub faults_stand : (from : RecordingHub H S) (steps : List HubStep) (to : RecordingHub H S) → AllByRecursion (λ step. goes_on step ≡ true) steps → Leads Step from steps to → hub_faults (hub_in to) ≡ hub_faults (hub_in from)
  faults_stand from _ _ went_on start = refl
  faults_stand from _ _ went_on (next steps mid step to way may_step) =
      let both = front_and_last (λ step. goes_on step ≡ true) steps step went_on in
      may_step.counts.answered (goes_on_not_failed step both.1) ∙ faults_stand from steps mid both.0 way

  pub faults_rise : (from : RecordingHub H S) (steps : List HubStep) (to : RecordingHub H S) → Leads Step from steps to → hub_faults (hub_in from) ≤ hub_faults (hub_in to)
  faults_rise from _ _ start = omega arith
  faults_rise from _ _ (next steps mid step to way may_step) = omega (arith, faults_rise from steps mid way, may_step.counts.hub)

  pub sink_faults_rise : (from : RecordingHub H S) (steps : List HubStep) (to : RecordingHub H S) → Leads Step from steps to → faults (sink_in from) ≤ faults (sink_in to)
  sink_faults_rise from _ _ start = omega arith
  sink_faults_rise from _ _ (next steps mid step to way may_step) = omega (arith, sink_faults_rise from steps mid way, may_step.counts.sink)
