-- Counts: one item at a time, by tests that say the same, and where none passes.
use Rattle.std.proofs.Common.{◌≡◌, ℕ, ◌+◌, ◌<◌, Bool, false, cond, List, [], ◌∷◌, drop, length, get_or, refl, sym, ap, ◌∙◌, arith}
use Rattle.std.specs.Prelude.{count_by}
use Rattle.std.proofs.lemmas.List.Sums.{sum_by-cons, sum_by-drop_more}

pub counted : {A : Type 0} (p : A → Bool) (xs : List A) (i : ℕ) (b : Bool) → i < length xs → ((d : A) → b ≡ p (get_or xs i d))
    → count_by p (drop i xs) ≡ cond b 1 0 + count_by p (drop (i + 1) xs)
counted p [] i b lt is = absurd (omega arith)
counted p (x ∷ xs) i b lt is =
    sum_by-drop_more (λ y. cond (p y) 1 0) (x ∷ xs) i x lt ∙ ap (λ t. cond t 1 0 + count_by p (drop (i + 1) (x ∷ xs))) (sym (is x))

-- by two tests that say the same
pub count-same : {A : Type 0} (p q : A → Bool) → ((x : A) → p x ≡ q x) → (xs : List A) → count_by p xs ≡ count_by q xs
count-same p q same [] = refl
count-same p q same (x ∷ xs) =
    sum_by-cons (λ y. cond (p y) 1 0) x xs
    ∙ ap (λ b. cond b 1 0 + count_by p xs) (same x)
    ∙ ap (λ n. cond (q x) 1 0 + n) (count-same p q same xs)
    ∙ sym (sum_by-cons (λ y. cond (q y) 1 0) x xs)

-- none passes
pub count-none : {A : Type 0} (p : A → Bool) → ((x : A) → p x ≡ false) → (xs : List A) → count_by p xs ≡ 0
count-none p never [] = refl
count-none p never (x ∷ xs) =
    sum_by-cons (λ y. cond (p y) 1 0) x xs ∙ ap (λ b. cond b 1 0 + count_by p xs) (never x) ∙ none_more (count_by p xs) ∙ count-none p never xs
  where
    none_more : (k : ℕ) → 0 + k ≡ k
    none_more k = omega arith
