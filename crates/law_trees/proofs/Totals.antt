-- Sums over lists.
use Rattle.std.proofs.Common.{◌≡◌, ℕ, suc, ◌+◌, ◌≤◌, Bool, true, false, cond, List, [], ◌∷◌, ◌++◌, count_by, filter, map, refl, inl, inr, ap, ◌∙◌, arith}
use Rattle.std.specs.Prelude.{Contains, sum_by}
use Rattle.std.specs.List.{flat_map}
use Rattle.std.proofs.lemmas.List.Sums.{sum_by-cons}
use Rattle.stack_paths.proofs.Finite.{contains_here, contains_there, contains_cons}

abbrev pub total : {X : Type 0} → (X → ℕ) → List X → ℕ
total w [] = 0
total w (x ∷ xs) = w x + total w xs

module _ {X : Type 0} (w : X → ℕ) where
  pub total_is : (xs : List X) → sum_by w xs ≡ total w xs
  total_is [] = refl
  total_is (x ∷ xs) = sum_by-cons w x xs ∙ ap (λ (n : ℕ). w x + n) (total_is xs)

  pub total_joined : (xs ys : List X) → total w (xs ++ ys) ≡ total w xs + total w ys
  total_joined [] ys = omega arith
  total_joined (x ∷ xs) ys = let rest = total_joined xs ys in omega (arith, rest)

  pub total_filtered : (t : X → Bool) (xs : List X) → total w (filter t xs) ≡ total (λ x. cond (t x) (w x) 0) xs
  total_filtered t [] = refl
  total_filtered t (x ∷ xs) = by (t x) (total_filtered t xs)
    where
      by : (b : Bool) → total w (filter t xs) ≡ total (λ y. cond (t y) (w y) 0) xs → total w (cond b (x ∷ filter t xs) (filter t xs)) ≡ cond b (w x) 0 + total (λ y. cond (t y) (w y) 0) xs
      by true more = ap (λ (n : ℕ). w x + n) more
      by false more = omega (arith, more)

  pub total_flat : {Y : Type 0} (f : Y → List X) (ys : List Y) → total w (flat_map f ys) ≡ total (λ y. total w (f y)) ys
  total_flat f [] = refl
  total_flat f (y ∷ ys) = total_joined (f y) (flat_map f ys) ∙ ap (λ (n : ℕ). total w (f y) + n) (total_flat f ys)

  pub total_mapped : {Y : Type 0} (f : Y → X) (ys : List Y) → total w (map f ys) ≡ total (λ y. w (f y)) ys
  total_mapped f [] = refl
  total_mapped f (y ∷ ys) = ap (λ (n : ℕ). w (f y) + n) (total_mapped f ys)

  pub total_same : (v : X → ℕ) (xs : List X) → ((x : X) → Contains xs x → w x ≡ v x) → total w xs ≡ total v xs
  total_same v [] same = refl
  total_same v (x ∷ xs) same =
      let here = same x (contains_here x xs) in
      let rest = total_same v xs (λ y c. same y (contains_there x y xs c)) in
      omega (arith, here, rest)

  pub total_none : (xs : List X) → ((x : X) → Contains xs x → w x ≡ 0) → total w xs ≡ 0
  total_none [] none = refl
  total_none (x ∷ xs) none =
      let here = none x (contains_here x xs) in
      let rest = total_none xs (λ y c. none y (contains_there x y xs c)) in
      omega (arith, here, rest)

  pub total_plus : (v : X → ℕ) (xs : List X) → total (λ x. w x + v x) xs ≡ total w xs + total v xs
  total_plus v [] = omega arith
  total_plus v (x ∷ xs) = let rest = total_plus v xs in omega (arith, rest)

module _ {X : Type 0} (t : X → Bool) where
  pub count_is : (xs : List X) → count_by t xs ≡ total (λ x. cond (t x) 1 0) xs
  count_is xs = total_is (λ x. cond (t x) 1 0) xs

  -- a number that is added where none passes, and where one does

  pub total_never : (c : ℕ) (xs : List X) → total (λ x. cond (t x) 1 0) xs ≡ 0 → total (λ x. cond (t x) c 0) xs ≡ 0
  total_never c [] none = refl
  total_never c (x ∷ xs) none = by (t x) (total_never c xs) none
    where
      by : (b : Bool) → (total (λ y. cond (t y) 1 0) xs ≡ 0 → total (λ y. cond (t y) c 0) xs ≡ 0) → cond b 1 0 + total (λ y. cond (t y) 1 0) xs ≡ 0 → cond b c 0 + total (λ y. cond (t y) c 0) xs ≡ 0
      by true more e = absurd (omega (arith, e))
      by false more e = let rest = more (omega (arith, e)) in omega (arith, rest)

  pub total_once : (c : ℕ) (xs : List X) → total (λ x. cond (t x) 1 0) xs ≡ 1 → total (λ x. cond (t x) c 0) xs ≡ c
  total_once c [] one = absurd (omega (arith, one))
  total_once c (x ∷ xs) one = by (t x) (total_once c xs) one
    where
      by : (b : Bool) → (total (λ y. cond (t y) 1 0) xs ≡ 1 → total (λ y. cond (t y) c 0) xs ≡ c) → cond b 1 0 + total (λ y. cond (t y) 1 0) xs ≡ 1 → cond b c 0 + total (λ y. cond (t y) c 0) xs ≡ c
      by true more e = let rest = total_never c xs (omega (arith, e)) in omega (arith, rest)
      by false more e = let rest = more (omega (arith, e)) in omega (arith, rest)

-- where one test passes whatever another does, and one more, it passes more often
module _ {X : Type 0} (s t : X → Bool) where
  step : (x : X) → (s x ≡ true → t x ≡ true) → cond (s x) 1 0 ≤ cond (t x) 1 0
  step x h = by (s x) (t x) h
    where
      by : (a b : Bool) → (a ≡ true → b ≡ true) → cond a 1 0 ≤ cond b 1 0
      by true b h = rw (h refl) (omega arith)
      by false b h = omega arith

  pub no_more : (xs : List X) → ((x : X) → Contains xs x → s x ≡ true → t x ≡ true) → total (λ x. cond (s x) 1 0) xs ≤ total (λ x. cond (t x) 1 0) xs
  no_more [] h = omega arith
  no_more (x ∷ xs) h =
      let here = step x (h x (contains_here x xs)) in
      let rest = no_more xs (λ y c. h y (contains_there x y xs c)) in
      omega (arith, here, rest)

  pub one_more : (xs : List X) → ((x : X) → Contains xs x → s x ≡ true → t x ≡ true) → (y : X) → Contains xs y → s y ≡ false → t y ≡ true → suc (total (λ x. cond (s x) 1 0) xs) ≤ total (λ x. cond (t x) 1 0) xs
  one_more [] h y c out into = absurd (omega (arith, c.1))
  one_more (x ∷ xs) h y c out into =
      elim (contains_cons x y xs c) [
        | inl first ↦
            let rest = no_more xs (λ z d. h z (contains_there x z xs d)) in
            let first_out : s x ≡ false = ap s first ∙ out in
            let first_into : t x ≡ true = ap t first ∙ into in
            rw (first_out, first_into) (omega (arith, rest))
        | inr later ↦
            let here = step x (h x (contains_here x xs)) in
            let rest = one_more xs (λ z d. h z (contains_there x z xs d)) y later out into in
            omega (arith, here, rest)
      ]
