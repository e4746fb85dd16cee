-- Counts of the interfaces that mirror each port.
use Rattle.std.proofs.Common.{◌≡◌, ℕ, ◌+◌, ◌<◌, ◌==◌, ◌||◌, Bool, true, false, cond, ltb, List, [], ◌∷◌, take, length, get_or, count_by, refl, sym, ap, ◌∙◌, arith}
use Rattle.std.specs.List.{list_any}
use Rattle.std.proofs.Math.Bool.{or-false}
use Rattle.std.proofs.lemmas.Bool.{eqb-true, lt-ltb}
use Rattle.std.proofs.lemmas.List.{length-take}
use Rattle.std.proofs.lemmas.List.Sums.{sum_by-cons, count_by-le-length, count_by_more_yes, count_by_more_no}
use Rattle.conf_types.specs.Lists.{is_among}
use Rattle.conf_rules.proofs.Earlier.{any_more}

-- a number that is counted where it wasn't seen, and not where it was
once_more : (p : ℕ → Bool) (q : Bool) (m n : ℕ) (was : Bool) → q ≡ (p n || m == n) → was ≡ p m → cond q 1 0 ≡ cond (p n) 1 0 + cond was 0 (cond (m == n) 1 0)
once_more p q m n was more is = ap (λ b. cond b 1 0) more ∙ by (m == n) refl
  where
    idle : (b : Bool) (k : ℕ) → k ≡ k + cond b 0 0
    idle true k = omega arith
    idle false k = omega arith

    again : (b : Bool) → cond (b || true) 1 0 ≡ cond b 1 0 + cond b 0 1
    again true = refl
    again false = refl

    by : (b : Bool) → (m == n) ≡ b → cond (p n || m == n) 1 0 ≡ cond (p n) 1 0 + cond was 0 (cond (m == n) 1 0)
    by false h = rw h (ap (λ b. cond b 1 0) (or-false (p n)) ∙ idle was (cond (p n) 1 0))
    by true h =
        let same : was ≡ p n = is ∙ ap p (eqb-true m n h) in
        rw (h, same) (again (p n))

-- one of the ports that an interface mirrors
pub mirror_more : (xs ys : List ℕ) (i x m n k t u : ℕ) (was : Bool) → ys ≡ xs → i < length ys → x ≡ get_or ys i x → m ≡ x → was ≡ is_among (take i xs) m
    → t ≡ k + cond (is_among (take i xs) n) 1 0 → u ≡ t + cond was 0 (cond (m == n) 1 0) → u ≡ k + cond (is_among (take (i + 1) xs) n) 1 0
mirror_more xs ys i x m n k t u was e lt is same was_is so_far further =
    let more : is_among (take (i + 1) xs) n ≡ (is_among (take i xs) n || m == n) =
    any_more (λ y. y == n) xs ys i x e lt is ∙ ap (λ j. is_among (take i xs) n || j == n) (sym same) in
    let once = once_more (is_among (take i xs)) (is_among (take (i + 1) xs) n) m n was more was_is in
    omega arith

pub fits_unseen : (k t most : ℕ) (b p : Bool) → b ≡ p → t ≡ k + cond p 1 0 → k + 1 < most → b ≡ false → t + 1 < most
fits_unseen k t most true p e so_far few not = absurd (cc)
fits_unseen k t most false true e so_far few not = absurd (cc)
fits_unseen k t most false false e so_far few not = omega arith

-- one of the interfaces
pub counted_more : {A : Type 0} (p : A → Bool) (xs : List A) (i : ℕ) (x : A) (t u : ℕ) → i < length xs → x ≡ get_or xs i x
    → t ≡ count_by p (take i xs) → u ≡ t + cond (p x) 1 0 → u ≡ count_by p (take (i + 1) xs)
counted_more p xs i x t u lt is so_far further = by (p x) refl further
  where
    by : (b : Bool) → p x ≡ b → u ≡ t + cond b 1 0 → u ≡ count_by p (take (i + 1) xs)
    by true h f = let one = count_by_more_yes p xs i x lt (ap p (sym is) ∙ h) in omega arith
    by false h f = let none = count_by_more_no p xs i x lt (ap p (sym is) ∙ h) in omega arith

pub few-counted : {A : Type 0} (p : A → Bool) (xs : List A) (i t most : ℕ) → t ≡ count_by p (take i xs) → i < length xs → length xs < most → t + 1 < most
few-counted p xs i t most is lt few =
    let counted = count_by-le-length p (take i xs) in
    let taken = length-take i xs in
    omega arith

-- some pass where the count of them isn't none
pub some-counted : {A : Type 0} (p : A → Bool) (xs : List A) → ltb 0 (count_by p xs) ≡ list_any p xs
some-counted p [] = refl
some-counted p (x ∷ xs) =
    ap (ltb 0) (sum_by-cons (λ y. cond (p y) 1 0) x xs)
    ∙ elim (p x) as (λ b. ltb 0 (cond b 1 0 + count_by p xs) ≡ (b || list_any p xs)) [
      | true ↦ lt-ltb 0 (1 + count_by p xs) (omega arith)
      | false ↦ ap (ltb 0) (none (count_by p xs)) ∙ some-counted p xs
    ]
  where
    none : (k : ℕ) → 0 + k ≡ k
    none k = omega arith
