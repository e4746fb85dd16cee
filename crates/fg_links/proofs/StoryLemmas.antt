-- What hubs in memory keep.
use Rattle.std.proofs.Common.{◌≡◌, Bool, List, [], ◌∷◌, ◌++◌, refl, sym, ◌∙◌, ap}
use Rattle.std.specs.List.{fold}
use Rattle.std.proofs.lemmas.List.{append-nil}
use Rattle.std.proofs.lemmas.List.Sums.{fold-append}
use Rattle.fg_outside.specs.HubStep.{HubStep, Event, told_by, story, Leads, start, next}
use Rattle.fg_links.specs.declared.mem_hub.HubInMemory.{HubInMemory}
use Rattle.fg_links.specs.declared.story.StoryStep.{StoryStep}
use Rattle.fg_links.specs.HubInMemory.{May, story_of}
use Rattle.fg_links.specs.Stories.{kept}

module _ (stories_join : (first second : List HubStep) → story (first ++ second) ≡ story first ++ story second) where
  -- the story behind one step more
  story-next : (before : List StoryStep) (steps : List HubStep) (step : HubStep) → fold kept (fold kept before (story steps)) (told_by step) ≡ fold kept before (story (steps ++ step ∷ []))
  story-next before steps step =
      sym (fold-append kept before (story steps) (told_by step))
      ∙ ap (λ (l : List Event). fold kept before (story steps ++ l)) (sym (append-nil (told_by step)))
      ∙ ap (λ (l : List Event). fold kept before l) (sym (stories_join steps (step ∷ [])))

  -- the story at the end of a way
  pub story-led : {P : Type 0} (fails : P → Bool) (after : P → P) (from : HubInMemory P) (steps : List HubStep) (to : HubInMemory P) → Leads (May fails after) from steps to → story_of to ≡ fold kept (story_of from) (story steps)
  story-led fails after from _ _ start = refl
  story-led fails after from _ _ (next steps mid step to way may) =
      may.story
      ∙ ap (λ (l : List StoryStep). fold kept l (told_by step)) (story-led fails after from steps mid way)
      ∙ story-next (story_of from) steps step
