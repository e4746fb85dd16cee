-- The first that passes a test, as items are put into a map from the last to the first.
use Rattle.std.proofs.Common.{◌≡◌, ℕ, ◌+◌, ◌<◌, ◌≤◌, Bool, true, false, cond, List, ◌∷◌, drop, length, get_or, Option, Some, None, option_and_then, refl, sym, ap, ◌∙◌}
use Rattle.std.specs.List.{find, slice_get}
use Rattle.std.proofs.lemmas.Option.{slice_get_read}
use Rattle.conf_rules.proofs.First.{drop-past, next}

module _ {A : Type 0} (test : A → Bool) (xs : List A) where
  -- of none
  pub none_found : (i : ℕ) → length xs ≤ i → None ≡ find test (drop i xs)
  none_found i past = sym (ap (find test) (drop-past xs i past))

  -- of one more, before the others
  pub found_more : (k i : ℕ) (x : A) (before after : Option A) → k ≡ i + 1 → i < length xs → x ≡ get_or xs i x
      → before ≡ find test (drop k xs) → after ≡ cond (test x) (Some x) before → after ≡ find test (drop i xs)
  found_more k i x before after behind less is so_far further =
      further
      ∙ ap (λ t. cond (test x) (Some x) t) so_far
      ∙ sym (ap (find test) (next xs xs i x refl less is ∙ ap (λ (j : ℕ). x ∷ drop j xs) (sym behind)))

  -- the same, by its place
  pub placed_more : (k i : ℕ) (x : A) (before after : Option ℕ) → k ≡ i + 1 → i < length xs → x ≡ get_or xs i x
      → option_and_then (slice_get xs) before ≡ find test (drop k xs) → after ≡ cond (test x) (Some i) before → option_and_then (slice_get xs) after ≡ find test (drop i xs)
  placed_more k i x before after behind less is so_far further =
      found_more k i x (option_and_then (slice_get xs) before) (option_and_then (slice_get xs) after) behind less is so_far
      (ap (option_and_then (slice_get xs)) further ∙ by (test x))
    where
      by : (b : Bool) → option_and_then (slice_get xs) (cond b (Some i) before) ≡ cond b (Some x) (option_and_then (slice_get xs) before)
      by true = slice_get_read xs (length xs) i x refl less is
      by false = refl
