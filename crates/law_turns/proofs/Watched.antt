-- What a Gauge knows and gives without reloads.
use Rattle.std.proofs.Common.{◌≡◌, ℕ, List, [], ◌∷◌, ◌++◌, refl, ap, ◌∙◌}
use Rattle.fg_outside.specs.declared.hub.Happening.{Happening}
use Rattle.fg_outside.specs.declared.hub.Happening.TheVariants as happenings
use Rattle.gauge_poll.specs.Monitoring.{Monitor, anew, behind, lines_of, turn}
use Rattle.law_turns.specs.Reloads.{is_reload, without}

pub behind_then : (m : Monitor) (past : List Happening) (h : Happening) → behind m (past ++ h ∷ []) ≡ turn h (behind m past)
behind_then m [] h = refl
behind_then m (g ∷ past) h = behind_then (turn g m) past h

-- what was said in the turn before doesn't count
behind_anew : (m : Monitor) (story : List Happening) → anew (behind (anew m) story) ≡ anew (behind m story)
behind_anew m [] = refl
behind_anew m (h ∷ story) = refl

lines_anew : (m : Monitor) (story : List Happening) → lines_of (anew m) story ≡ lines_of m story
lines_anew m [] = refl
lines_anew m (h ∷ story) = refl

pub known_without : (m : Monitor) (story : List Happening) → anew (behind m story) ≡ anew (behind m (without is_reload story))
known_without m [] = refl
known_without m (happenings.Opened number ∷ story) = known_without (turn (happenings.Opened number) m) story
known_without m (happenings.Heard number piece ∷ story) = known_without (turn (happenings.Heard number piece) m) story
known_without m (happenings.Closed number cause ∷ story) = known_without (turn (happenings.Closed number cause) m) story
known_without m (happenings.Moment moment ∷ story) = known_without (turn (happenings.Moment moment) m) story
known_without m (happenings.Reload text ∷ story) = behind_anew m story ∙ known_without m story

pub lines_without : (m : Monitor) (story : List Happening) → lines_of m story ≡ lines_of m (without is_reload story)
lines_without m [] = refl
lines_without m (happenings.Opened number ∷ story) = ap (λ (rest : List (List ℕ)). (turn (happenings.Opened number) m).lines ++ rest) (lines_without (turn (happenings.Opened number) m) story)
lines_without m (happenings.Heard number piece ∷ story) = ap (λ (rest : List (List ℕ)). (turn (happenings.Heard number piece) m).lines ++ rest) (lines_without (turn (happenings.Heard number piece) m) story)
lines_without m (happenings.Closed number cause ∷ story) = ap (λ (rest : List (List ℕ)). (turn (happenings.Closed number cause) m).lines ++ rest) (lines_without (turn (happenings.Closed number cause) m) story)
lines_without m (happenings.Moment moment ∷ story) = ap (λ (rest : List (List ℕ)). (turn (happenings.Moment moment) m).lines ++ rest) (lines_without (turn (happenings.Moment moment) m) story)
lines_without m (happenings.Reload text ∷ story) = lines_anew m story ∙ lines_without m story
