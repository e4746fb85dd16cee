-- A list without repeats is no longer than one that has all its members.
use Rattle.std.proofs.Common.{◌≡◌, ◌∙◌, ℕ, ◌+◌, ◌<◌, ◌≤◌, zero, suc, inl, inr, List, [], ◌∷◌, length, get_or, sym, subst, arith}
use Rattle.std.specs.Prelude.{Contains}
use Rattle.conf_types.specs.Lists.{AreDistinct}
use Rattle.law_runs.specs.Members.{head_of, tail_of, of_all}
use Rattle.warm_plan.proofs.Commands.{of_cons}

-- without the one at a place
abbrev without_at : {A : Type 0} → List A → ℕ → List A
without_at [] k = []
without_at (y ∷ ys) zero = ys
without_at (y ∷ ys) (suc k) = y ∷ without_at ys k

shorter : {A : Type 0} (ys : List A) (k : ℕ) → k < length ys → length ys ≡ length (without_at ys k) + 1
shorter [] k lt = absurd (omega (arith, lt))
shorter (y ∷ ys) zero lt = omega arith
shorter (y ∷ ys) (suc k) lt = omega (arith, shorter ys k (omega (arith, lt)))

others_stay : {A : Type 0} (ys : List A) (k : ℕ) (x z : A) → k < length ys → get_or ys k x ≡ x → Contains ys z → (x ≡ z → ⊥) → Contains (without_at ys k) z
others_stay [] k x z lt is c other = absurd (omega (arith, lt))
others_stay (y ∷ ys) zero x z lt is c other = elim (of_cons y ys z c) [ inl same ↦ absurd (other (sym is ∙ same)) | inr more ↦ more ]
others_stay (y ∷ ys) (suc k) x z lt is c other = elim (of_cons y ys z c) [
  | inl same ↦ subst (Contains (y ∷ without_at ys k)) same (head_of y (without_at ys k))
  | inr more ↦ tail_of y (without_at ys k) z (others_stay ys k x z (omega (arith, lt)) is more other)
]

pub no_longer : {A : Type 0} (xs ys : List A) → AreDistinct xs → ((x : A) → Contains xs x → Contains ys x) → length xs ≤ length ys
no_longer [] ys once among = omega arith
no_longer (x ∷ xs) ys once among =
    let at = among x (head_of x xs) in
    let more = no_longer xs (without_at ys at.0) once.1 (λ z c. others_stay ys at.0 x z at.1 at.2 (among z (tail_of x xs z c)) (of_all (λ w. x ≡ w → ⊥) xs once.0 z c)) in
    omega (arith, more, shorter ys at.0 at.1)
