-- The watch beneath a recorded hub, where its last call may have been lost.
use Rattle.std.proofs.Common.{◌≡◌, ◌-◌, inl, inr, ℕ, true, List, [], ◌∷◌, ◌++◌, length, take, Option, refl, sym, ap, subst, ◌∙◌, append_assoc, arith, true≢false, length-append}
use Rattle.std.proofs.lemmas.Bool.{cases_Bool}
use Rattle.std.proofs.lemmas.List.{append-nil}
use Rattle.std.proofs.Math.Bool.{or-true}
use Rattle.std.specs.List.{AllByRecursion}
use Rattle.fg_outside.specs.declared.hub.Happening.{Happening}
use Rattle.fg_outside.specs.declared.hub.Turn.TheVariants as turns
use Rattle.fg_outside.specs.declared.hub.Said.TheVariants as answers
use Rattle.fg_outside.specs.Contents.{Contents}
use Rattle.fg_outside.specs.HubStep.{HubStep, Event, Leads, closed, happenings, next, said, start, story, told_by, turned}
use Rattle.fg_outside.proofs.StoryLemmas.{story-next}
use Rattle.recording.proofs.Turning.{happenings-append}
use Rattle.recording_hub.specs.declared.recording_hub.RecordingHub.{RecordingHub}
use Rattle.recording_hub.specs.RecordingHub as recorded
use Rattle.recording_hub.specs.RecordingHub.{IsAskedOnce}
use Rattle.watch_hub.specs.declared.watch.Watch.{Watch}
use Rattle.watch_hub.specs.Watch.{Does, IsAsked, WatchStep, files_in, hub_in, is_spent, lost, nothing}
use Rattle.hub_drive.specs.Driving.{Deed, IsFront, deeds}
use Rattle.hub_drive.specs.Driven.{TellsPart, goes_on}
use Rattle.hub_drive.proofs.Deeds.{deeds-append}
use Rattle.hub_drive.proofs.Telling.{all_of_front}
use Rattle.ctl_serve.proofs.Serving.{front_then}
use Rattle.ctl_recorded.proofs.Beneath.{Step, all_beneath}

front_shorter : {X : Type 0} (front more whole : List X) → IsFront (front ++ more) whole → IsFront front whole
front_shorter front more whole is = record { rest = more ++ is.rest; parts = is.parts ∙ append_assoc front more is.rest }

-- all but the last
but_last : (steps : List HubStep) (step : HubStep) → take (length (steps ++ step ∷ []) - 1) (steps ++ step ∷ []) ≡ steps
but_last steps step = front_then (length (steps ++ step ∷ []) - 1) steps (step ∷ []) (omega (arith, length-append steps (step ∷ [])))

module _ {H F : Type 0} (may : H → HubStep → H → Type 0) (contents : F → Option Contents) (faults absences : F → ℕ) where
  abbrev pub WStep : Watch H F → HubStep → Watch H F → Type 0
  WStep = WatchStep may contents faults absences

  asked : (old new : Watch H F) (it : Happening) → Does may contents faults absences old (turned (turns.Happened it)) new → IsAsked may (hub_in old) (hub_in new)
  asked old new it (inl tells) = nothing (ap hub_in tells.after)
  asked old new it (inr passes) = lost it passes.hub

  -- a turn whose happening was lost is to its hub as one in which memory ran out
  pub lost_step : (old new : Watch H F) (it : Happening) → WStep old (turned (turns.Happened it)) new → WStep old (turned turns.Memory) (record new { spent = true })
  lost_step old new it step = record {
    does = record { spent = refl; hub = asked old new it step.does };
    along = record { way = step.along.way; leads = step.along.leads; file = step.along.file };
    running = λ r. absurd (true≢false r);
    spends = sym (or-true (is_spent old));
  }

  -- it went so far, to a state that differs from this one at most in whether it is spent
  pub record WentPart (from : Watch H F) (whole : List Deed) (hs : List Happening) (to : Watch H F) : Type 0 where
    pub until : Watch H F
    pub told : TellsPart WStep from whole until
    pub happened : happenings (story told.steps) ≡ hs
    pub hub : hub_in until ≡ hub_in to
    pub files : files_in until ≡ files_in to

  module _ (from mid to : Watch H F) (steps : List HubStep) (step : HubStep) (before : Leads WStep from steps mid) (whole : List Deed) (hs : List Happening)
      (went_on : AllByRecursion (λ s. goes_on s ≡ true) steps) (front : IsFront (deeds (story (steps ++ step ∷ []))) whole) (happened : happenings (story (steps ++ step ∷ [])) ≡ hs) where
    -- the last call was made of it, or one that tells the same
    pub with_last : (last : HubStep) (until : Watch H F) → WStep mid last until → told_by last ≡ told_by step → hub_in until ≡ hub_in to → files_in until ≡ files_in to → WentPart from whole hs to
    with_last last until last_may same hub files =
        let told : story (steps ++ last ∷ []) ≡ story (steps ++ step ∷ []) =
        story-next steps last ∙ ap (λ (l : List Event). story steps ++ l) same ∙ sym (story-next steps step)
        in
        record {
          until = until;
          told = record {
            steps = steps ++ last ∷ [];
            leads = next steps mid last until before last_may;
            front = subst (λ (l : List Event). IsFront (deeds l) whole) (sym told) front;
            went_on = subst (λ (l : List HubStep). AllByRecursion (λ s. goes_on s ≡ true) l) (sym (but_last steps last)) went_on;
          };
          happened = ap (λ (l : List Event). happenings l) told ∙ happened;
          hub = hub;
          files = files;
        }

    -- the last call wasn't made of it
    pub without_last : happenings (told_by step) ≡ [] → mid ≡ to → WentPart from whole hs to
    without_last none same =
        record {
          until = mid;
          told = record {
            steps = steps;
            leads = before;
            front = front_shorter (deeds (story steps)) (deeds (told_by step)) whole
                (subst (λ (l : List Deed). IsFront l whole) (ap (λ (l : List Event). deeds l) (story-next steps step) ∙ deeds-append (story steps) (told_by step)) front);
            went_on = all_of_front (λ s. goes_on s ≡ true) (length steps - 1) steps went_on;
          };
          happened =
              sym (ap (λ (l : List Event). happenings l) (story-next steps step)
              ∙ happenings-append (story steps) (told_by step)
              ∙ ap (λ (l : List Happening). happenings (story steps) ++ l) none
              ∙ append-nil (happenings (story steps)))
              ∙ happened;
          hub = ap hub_in same;
          files = ap files_in same;
        }

  module _ {S : Type 0} (hub_faults : Watch H F → ℕ) (wrote : S → Option (List ℕ)) (sink_faults : S → ℕ) where
    abbrev RStep : RecordingHub (Watch H F) S → HubStep → RecordingHub (Watch H F) S → Type 0
    RStep = Step WStep hub_faults wrote sink_faults

    abbrev watch_in : RecordingHub (Watch H F) S → Watch H F
    watch_in it = recorded.hub_in it

    module _ (from : RecordingHub (Watch H F) S) (steps : List HubStep) (mid : RecordingHub (Watch H F) S) (to : RecordingHub (Watch H F) S) (before : Leads WStep (watch_in from) steps (watch_in mid)) (whole : List Deed) (hs : List Happening)
        (went_on : AllByRecursion (λ s. goes_on s ≡ true) steps) where
      abbrev Part : Type 0
      Part = WentPart (watch_in from) whole hs (watch_in to)

      -- the same call was made of the watch
      same_last : (step : HubStep) → IsFront (deeds (story (steps ++ step ∷ []))) whole → happenings (story (steps ++ step ∷ [])) ≡ hs → WStep (watch_in mid) step (watch_in to) → Part
      same_last step front happened last = with_last (watch_in from) (watch_in mid) (watch_in to) steps step before whole hs went_on front happened step (watch_in to) last refl refl refl

      -- its happening was lost
      lost_last : (step : HubStep) (it : Happening) → told_by step ≡ [] → IsFront (deeds (story (steps ++ step ∷ []))) whole → happenings (story (steps ++ step ∷ [])) ≡ hs → WStep (watch_in mid) (turned (turns.Happened it)) (watch_in to) → Part
      lost_last step it none front happened last =
          with_last (watch_in from) (watch_in mid) (watch_in to) steps step before whole hs went_on front happened
          (turned turns.Memory) (record (watch_in to) { spent = true }) (lost_step (watch_in mid) (watch_in to) it last) (sym none) refl refl

      not_made : (step : HubStep) → happenings (told_by step) ≡ [] → IsFront (deeds (story (steps ++ step ∷ []))) whole → happenings (story (steps ++ step ∷ [])) ≡ hs → watch_in to ≡ watch_in mid → Part
      not_made step none front happened same = without_last (watch_in from) (watch_in mid) (watch_in to) steps step before whole hs went_on front happened none (sym same)

      by_last : (step : HubStep) → IsFront (deeds (story (steps ++ step ∷ []))) whole → happenings (story (steps ++ step ∷ [])) ≡ hs → recorded.Does WStep wrote sink_faults mid step to → Part
      by_last (turned (turns.Happened it)) front happened does = same_last (turned (turns.Happened it)) front happened does.hub
      by_last (turned turns.Done) front happened does = same_last (turned turns.Done) front happened does.hub
      by_last (turned turns.Failed) front happened does =
          elim does [
            | inl ends ↦ same_last (turned turns.Failed) front happened ends.hub
            | inr broken ↦ elim broken [
              | inl breaks ↦ lost_last (turned turns.Failed) breaks.it refl front happened breaks.hub
              | inr stays ↦ not_made (turned turns.Failed) refl front happened stays.hub
            ]
          ]
      by_last (turned turns.Memory) front happened does =
          elim does.hub [
            | recorded.nothing same ↦ not_made (turned turns.Memory) refl front happened same
            | recorded.in_vain last ↦ same_last (turned turns.Memory) front happened last
            | recorded.lost it last ↦ lost_last (turned turns.Memory) it refl front happened last
          ]
      by_last (said conn piece answers.Taken) front happened does = same_last (said conn piece answers.Taken) front happened does.hub
      by_last (said conn piece answers.Gone) front happened does = same_last (said conn piece answers.Gone) front happened does.hub
      by_last (said conn piece answers.Memory) front happened does =
          elim (cases_Bool (recorded.is_spent mid)) [
            | inl spent ↦ not_made (said conn piece answers.Memory) refl front happened (does.no_hub spent)
            | inr running ↦ same_last (said conn piece answers.Memory) front happened (does.hub running)
          ]
      by_last (closed conn) front happened does =
          elim does [
            | inl closes ↦ same_last (closed conn) front happened closes.hub
            | inr unnoted ↦ same_last (closed conn) front happened unnoted.hub
          ]

    pub part_beneath : (from : RecordingHub (Watch H F) S) (steps : List HubStep) (to : RecordingHub (Watch H F) S) (whole : List Deed) (hs : List Happening) → Leads RStep from steps to → IsFront (deeds (story steps)) whole
        → AllByRecursion (λ s. goes_on s ≡ true) (take (length steps - 1) steps) → happenings (story steps) ≡ hs → WentPart (watch_in from) whole hs (watch_in to)
    part_beneath from _ _ whole hs start front went_on happened = record {
      until = watch_in from;
      told = record { steps = []; leads = start; front = front; went_on = tt };
      happened = happened;
      hub = refl;
      files = refl;
    }
    part_beneath from _ _ whole hs (next steps mid step to way may_step) front went_on happened =
        let all = subst (λ (l : List HubStep). AllByRecursion (λ s. goes_on s ≡ true) l) (but_last steps step) went_on in
        by_last from steps mid to (all_beneath WStep hub_faults wrote sink_faults from steps mid all way) whole hs all step front happened may_step.does
