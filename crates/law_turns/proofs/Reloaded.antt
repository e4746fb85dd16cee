-- What a controller knows without the reloads that are refused.
use Rattle.std.proofs.Common.{◌≡◌, ℕ, Bool, true, false, not, List, [], ◌∷◌, ◌++◌, cond, codes, Result, Ok, Err, refl, sym, ap, ◌∙◌, subst, append_assoc, append-nil}
use Rattle.std.proofs.lemmas.List.Elements.{filter-append}
use Rattle.fg_outside.specs.declared.hub.Happening.{Happening}
use Rattle.fg_outside.specs.declared.hub.Happening.TheVariants as happenings
use Rattle.conf_types.specs.Configuration.{Configuration}
use Rattle.ctl_world.specs.declared.said.Said.TheVariants.{Line}
use Rattle.ctl_world.specs.World.{World, first}
use Rattle.ctl_core.specs.Settlings.{IsAtRest}
use Rattle.ctl_core.specs.Reloading.{accepted}
use Rattle.ctl_core.specs.Story.{behind}
use Rattle.ctl_core.specs.Turns.{turn, work}
use Rattle.law_turns.specs.Reloads.{is_fault, is_refused, unsaid, without}

pub behind_then : (w : World) (past : List Happening) (h : Happening) → behind w (past ++ h ∷ []) ≡ turn h (behind w past)
behind_then w [] h = refl
behind_then w (g ∷ past) h = behind_then (turn g w) past h

module _ (conf : Configuration) (rests : (story : List Happening) → IsAtRest (behind (first conf) story))
    (refused : (text cause : List ℕ) (w : World) → IsAtRest w → accepted text ≡ Err cause → turn (happenings.Reload text) w ≡ record w { said = Line (codes "reload: " ++ cause) ∷ [] }) where
  abbrev known : List Happening → World
  known story = behind (first conf) story

  abbrev Same : List Happening → Type 0
  Same past = unsaid (known past) ≡ unsaid (known (without is_refused past))

  fault_of : (read : Result Configuration (List ℕ)) → is_fault read ≡ true → (cause : List ℕ) × (read ≡ Err cause)
  fault_of (Ok next) is = absurd (let no : false ≡ true = is in cc)
  fault_of (Err cause) is = (cause, refl)

  quiet : (past : List Happening) (h : Happening) → is_refused h ≡ true → unsaid (turn h (known past)) ≡ unsaid (known past)
  quiet past (happenings.Opened number) is = absurd (let no : false ≡ true = is in cc)
  quiet past (happenings.Heard number piece) is = absurd (let no : false ≡ true = is in cc)
  quiet past (happenings.Closed number cause) is = absurd (let no : false ≡ true = is in cc)
  quiet past (happenings.Moment moment) is = absurd (let no : false ≡ true = is in cc)
  quiet past (happenings.Reload text) is = let fault = fault_of (accepted text) is in ap unsaid (refused text fault.0 (known past) (rests past) fault.1)

  -- the story with one happening more, without those that are refused
  more_kept : (past : List Happening) (h : Happening) (b : Bool) → is_refused h ≡ b → without is_refused (past ++ h ∷ []) ≡ without is_refused past ++ cond (not b) (h ∷ []) []
  more_kept past h b is =
      filter-append (λ (g : Happening). not (is_refused g)) past (h ∷ []) ∙ ap (λ (c : Bool). without is_refused past ++ cond (not c) (h ∷ []) []) is

  step : (past : List Happening) (h : Happening) (b : Bool) → is_refused h ≡ b → Same past → Same (past ++ h ∷ [])
  step past h true is same =
      ap unsaid (behind_then (first conf) past h) ∙ quiet past h is ∙ same
      ∙ sym (ap (λ (story : List Happening). unsaid (known story)) (more_kept past h true is ∙ append-nil (without is_refused past)))
  step past h false is same =
      ap unsaid (behind_then (first conf) past h) ∙ ap (λ (w : World). unsaid (work h w)) same
      ∙ sym (ap unsaid (behind_then (first conf) (without is_refused past) h))
      ∙ sym (ap (λ (story : List Happening). unsaid (known story)) (more_kept past h false is))

  go : (past story : List Happening) → Same past → Same (past ++ story)
  go past [] same = subst Same (sym (append-nil past)) same
  go past (h ∷ story) same = subst Same (append_assoc past (h ∷ []) story) (go (past ++ h ∷ []) story (step past h (is_refused h) refl same))

  pub same_without : (story : List Happening) → Same story
  same_without story = go [] story refl
