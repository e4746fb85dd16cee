-- A text that is cut at the first of a mark.
use Rattle.std.proofs.Common.{◌≡◌, ◌≢◌, ◌==◌, ◌++◌, ◌∙◌, ℕ, true, false, List, [], ◌∷◌, add_comm, add-one, ◌⊎◌, inl, inr, refl, ap, arith}
use Rattle.std.specs.List.{AllByRecursion, list_any, position_or_len, before_first, after_first}
use Rattle.std.proofs.Math.Bool.{or-true}
use Rattle.std.proofs.lemmas.Bool.Decides.{eqb_tells}
use Rattle.std.proofs.lemmas.Grind.{common_steps}

pub past_before : (mark b : ℕ) (bs : List ℕ) → (b == mark) ≡ false → before_first (λ c. c == mark) (b ∷ bs) ≡ b ∷ before_first (λ c. c == mark) bs
past_before mark b bs other = rw (other, add_comm 1 (position_or_len (λ c. c == mark) bs), add-one) refl

past_after : (mark b : ℕ) (bs : List ℕ) → (b == mark) ≡ false → after_first (λ c. c == mark) (b ∷ bs) ≡ after_first (λ c. c == mark) bs
past_after mark b bs other = rw (other, add_comm 1 (position_or_len (λ c. c == mark) bs), add-one, add-one) refl

is_other : (mark b : ℕ) → b ≢ mark → (b == mark) ≡ false
is_other mark b other = grind (arith, common_steps)

here_before : (mark : ℕ) (value : List ℕ) → before_first (λ c. c == mark) (mark ∷ value) ≡ []
here_before mark value = let same : (mark == mark) ≡ true = grind (arith, common_steps) in rw same refl

here_after : (mark : ℕ) (value : List ℕ) → after_first (λ c. c == mark) (mark ∷ value) ≡ value
here_after mark value = let same : (mark == mark) ≡ true = grind (arith, common_steps) in rw same refl

pub before_mark : (mark : ℕ) (front value : List ℕ) → AllByRecursion (λ c. c ≢ mark) front → before_first (λ c. c == mark) (front ++ mark ∷ value) ≡ front
before_mark mark [] value all = here_before mark value
before_mark mark (b ∷ bs) value all = past_before mark b (bs ++ mark ∷ value) (is_other mark b all.0) ∙ ap (λ rest. b ∷ rest) (before_mark mark bs value all.1)

pub after_mark : (mark : ℕ) (front value : List ℕ) → AllByRecursion (λ c. c ≢ mark) front → after_first (λ c. c == mark) (front ++ mark ∷ value) ≡ value
after_mark mark [] value all = here_after mark value
after_mark mark (b ∷ bs) value all = past_after mark b (bs ++ mark ∷ value) (is_other mark b all.0) ∙ after_mark mark bs value all.1

pub has_mark : (mark : ℕ) (front value : List ℕ) → list_any (λ c. c == mark) (front ++ mark ∷ value) ≡ true
has_mark mark [] value = let same : (mark == mark) ≡ true = grind (arith, common_steps) in rw same refl
has_mark mark (b ∷ bs) value = rw (has_mark mark bs value) (or-true (b == mark))

pub by_mark : (mark b : ℕ) → ((b == mark) ≡ true × (b ≡ mark)) ⊎ ((b == mark) ≡ false × (b ≢ mark))
by_mark mark b = eqb_tells b mark

pub split_mark : (mark : ℕ) (text : List ℕ) → list_any (λ c. c == mark) text ≡ true → text ≡ before_first (λ c. c == mark) text ++ mark ∷ after_first (λ c. c == mark) text
split_mark mark [] e = absurd (grind arith)
split_mark mark (b ∷ bs) e = elim (by_mark mark b) [
  | inl h ↦ rw h.0 (ap (λ c. c ∷ bs) h.1)
  | inr h ↦ rw (past_before mark b bs h.0, past_after mark b bs h.0) (ap (λ rest. b ∷ rest) (split_mark mark bs (rw h.0 at e)))
]
