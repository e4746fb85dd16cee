-- Ways of a hub, one behind the other.
use Rattle.std.proofs.Common.{◌≡◌, All, arith, List, [], ◌∷◌, ◌++◌, refl, sym, ◌∙◌, ap, subst, append_assoc}
use Rattle.std.proofs.lemmas.List.{append-nil}
use Rattle.std.proofs.lemmas.List.Elements.{All-push}
use Rattle.fg_outside.specs.HubStep.{HubStep, Event, told_by, story, Leads, start, next, Story}

pub story-append : (xs ys : List HubStep) → story (xs ++ ys) ≡ story xs ++ story ys
story-append [] ys = refl
story-append (x ∷ xs) ys = ap (λ (l : List Event). told_by x ++ l) (story-append xs ys) ∙ sym (append_assoc (told_by x) (story xs) (story ys))

-- a step adds to the story what it tells
pub story-next : (steps : List HubStep) (step : HubStep) → story (steps ++ step ∷ []) ≡ story steps ++ told_by step
story-next steps step = story-append steps (step ∷ []) ∙ ap (λ (l : List Event). story steps ++ l) (append-nil (told_by step))

module _ {H : Type 0} (may : H → HubStep → H → Type 0) where
  pub Story-start : (hub : H) → Story may hub [] hub
  Story-start hub = record { steps = []; leads = start; is = refl }

  pub Story-next : (from mid to : H) (events : List Event) (step : HubStep) → Story may from events mid → may mid step to → Story may from (events ++ told_by step) to
  Story-next from mid to events step before step_may = record {
    steps = before.steps ++ step ∷ [];
    leads = next before.steps mid step to before.leads step_may;
    is = story-next before.steps step ∙ ap (λ (l : List Event). l ++ told_by step) before.is;
  }

  -- a way behind a way
  pub Leads-append : (from mid : H) (xs : List HubStep) → Leads may from xs mid → (ys : List HubStep) (to : H) → Leads may mid ys to → Leads may from (xs ++ ys) to
  Leads-append from mid xs first ys _ start = subst (λ (l : List HubStep). Leads may from l mid) (sym (append-nil xs)) first
  Leads-append from mid xs first ys _ (next steps last step to second step_may) =
      subst (λ (l : List HubStep). Leads may from l to) (append_assoc xs steps (step ∷ [])) (next (xs ++ steps) last step to (Leads-append from mid xs first steps last second) step_may)

  -- what each step that the hub may take has, each step of a way has
  pub All-Leads : (P : HubStep → Type 0) → ((before : H) (step : HubStep) (after : H) → may before step after → P step) → (from : H) (steps : List HubStep) (to : H) → Leads may from steps to → All P steps
  All-Leads P each from _ _ start = λ k d below. absurd (omega (arith, below))
  All-Leads P each from _ _ (next steps mid step to way step_may) = All-push P steps step (All-Leads P each from steps mid way) (each mid step to step_may)

  -- what holds at the start of a way, and is kept by each step with what it adds to the story, holds at its end
  pub Story-keeps : (P : H → List Event → Type 0) → ((before : H) (events : List Event) (step : HubStep) (after : H) → P before events → may before step after → P after (events ++ told_by step)) → (from : H) → P from [] → (steps : List HubStep) (to : H) → Leads may from steps to → P to (story steps)
  Story-keeps P keeps from first _ _ start = first
  Story-keeps P keeps from first _ _ (next steps mid step to way step_may) =
      subst (λ (l : List Event). P to l) (sym (story-next steps step)) (keeps mid (story steps) step to (Story-keeps P keeps from first steps mid way) step_may)
