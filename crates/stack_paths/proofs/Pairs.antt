use Rattle.std.proofs.Common.{◌≡◌, ℕ, ◌+◌, ◌<◌, ◌≤◌, List, length, get_or, take, sym, ◌∙◌, subst, ⊎_elim, arith}
use Rattle.std.specs.Prelude.{All, AllPairs}
use Rattle.std.proofs.lemmas.Bool.{cases_lt}
use Rattle.std.proofs.lemmas.List.{get_or_default, get_or-take, length-take-le}

module _ {X : Type 0} (P : X → Type 0) (xs : List X) (i : ℕ) (x : X) (within : i < length xs) (is : x ≡ get_or xs i x) where
  -- one more item that passes
  pub all_step : ((k : ℕ) (d : X) → k < i → P (get_or xs k d)) → P x → (k : ℕ) (d : X) → k < i + 1 → P (get_or xs k d)
  all_step before here k d low = ⊎_elim
      (λ (lt : k < i). before k d lt)
      (λ (ge : i ≤ k). let same : i ≡ k = omega (arith, ge, low) in subst (λ j. P (get_or xs j d)) same (subst P (is ∙ get_or_default xs i x d within) here))
      (cases_lt k i)

  -- an item that doesn't
  pub not_all : (P x → ⊥) → All P xs → ⊥
  not_all fails all = fails (subst P (sym is) (all i x within))

module _ {X : Type 0} (R : X → X → Type 0) (xs : List X) (i : ℕ) (within : i < length xs) (d : X) where
  -- an item that goes with all before it
  pub pairs_step : ((j k : ℕ) (e : X) → j < k → k < i → R (get_or xs j e) (get_or xs k e)) → All (λ y. R y (get_or xs i d)) (take i xs) → (j k : ℕ) (e : X) → j < k → k < i + 1 → R (get_or xs j e) (get_or xs k e)
  pairs_step before here j k e lt low = ⊎_elim
      (λ (lower : k < i). before j k e lt lower)
      (λ (high : i ≤ k).
      let same : i ≡ k = omega (arith, high, low) in
      let low_j : j < i = omega (arith, lt, same) in
      let pair : R (get_or (take i xs) j e) (get_or xs i d) = here j e (omega (arith, low_j, length-take-le i xs (omega (arith, within)))) in
      let pair' : R (get_or xs j e) (get_or xs i d) = subst (λ y. R y (get_or xs i d)) (get_or-take i xs j e low_j) pair in
      subst (λ n. R (get_or xs j e) (get_or xs n e)) same (subst (R (get_or xs j e)) (get_or_default xs i d e within) pair'))
      (cases_lt k i)

  -- one that doesn't
  pub not_pairs : (All (λ y. R y (get_or xs i d)) (take i xs) → ⊥) → AllPairs R xs → ⊥
  not_pairs fails pairs = fails (λ j e low.
      let low_j : j < i = omega (arith, low, length-take-le i xs (omega (arith, within))) in
      subst (λ y. R y (get_or xs i d)) (sym (get_or-take i xs j e low_j)) (subst (R (get_or xs j e)) (get_or_default xs i e d within) (pairs j i e low_j within)))
