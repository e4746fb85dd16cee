-- Where memory ran out in a watch, and what its files count.
use Rattle.std.proofs.Common.{◌≡◌, ◌≤◌, ◌||◌, ◌∙◌, ℕ, Bool, false, List, [], ◌∷◌, ◌++◌, Option, refl, arith}
use Rattle.std.specs.List.{AllByRecursion}
use Rattle.fg_outside.specs.Contents.{Contents}
use Rattle.fg_outside.specs.HubStep.{HubStep, Leads, start, next}
use Rattle.fg_links.specs.HubInMemory.{lacks_memory}
use Rattle.watch_hub.specs.declared.watch.Watch.{Watch}
use Rattle.watch_hub.specs.Watch.{files_in, is_spent, WatchStep}

-- what holds of all holds of the front, and of the last
pub front_and_last : {X : Type 0} (P : X → Type 0) (xs : List X) (x : X) → AllByRecursion P (xs ++ x ∷ []) → AllByRecursion P xs × P x
front_and_last P [] x all = (tt, all.0)
front_and_last P (y ∷ ys) x all = let rest = front_and_last P ys x all.1 in ((all.0, rest.0), rest.1)

-- one more of which it holds
pub all_push : {X : Type 0} (P : X → Type 0) (xs : List X) (x : X) → AllByRecursion P xs → P x → AllByRecursion P (xs ++ x ∷ [])
all_push P [] x all last = (last, tt)
all_push P (y ∷ ys) x all last = (all.0, all_push P ys x all.1 last)

pub none_of_two : (a b : Bool) → a ≡ false → b ≡ false → (a || b) ≡ false
none_of_two a b x y = rw (x, y) refl

module _ {H F : Type 0} (may : H → HubStep → H → Type 0) (contents : F → Option Contents) (faults absences : F → ℕ) where
  pub stays_running : (from : Watch H F) → is_spent from ≡ false → (steps : List HubStep) (to : Watch H F) → Leads (WatchStep may contents faults absences) from steps to
      → AllByRecursion (λ step. lacks_memory step ≡ false) steps → is_spent to ≡ false
  stays_running from running _ _ start answered = running
  stays_running from running _ _ (next steps mid step to way may_step) answered =
      let parts = front_and_last (λ step. lacks_memory step ≡ false) steps step answered in
      may_step.spends ∙ none_of_two (is_spent mid) (lacks_memory step) (stays_running from running steps mid way parts.0) parts.1

  pub counts_stand : (from : Watch H F) (steps : List HubStep) (to : Watch H F) → Leads (WatchStep may contents faults absences) from steps to
      → (faults (files_in from) ≤ faults (files_in to)) × (absences (files_in from) ≤ absences (files_in to))
  counts_stand from _ _ start = (omega arith, omega arith)
  counts_stand from _ _ (next steps mid step to way may_step) =
      let before = counts_stand from steps mid way in
      let more_faults = may_step.along.file.counted_faults in
      let more_absences = may_step.along.file.counted_absences in
      (omega (arith, before.0, more_faults), omega (arith, before.1, more_absences))
