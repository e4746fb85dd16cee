-- Different numbers of a list, counted as the numbers below a bound that are among them.
use Rattle.std.proofs.Common.{◌≡◌, ℕ, zero, suc, ◌+◌, ◌<◌, ◌≤◌, ◌==◌, ◌||◌, Bool, true, false, cond, ltb, List, [], ◌∷◌, refl, sym, ap, ◌∙◌, arith}
use Rattle.std.proofs.Math.Bool.{or-true}
use Rattle.std.proofs.lemmas.Bool.{eqb-true, eq-eqb, ne_eqb, ltb-true, ltb-false}
use Rattle.conf_types.specs.Lists.{is_among, different}

-- how many numbers below a bound pass
abbrev pub count_below : (ℕ → Bool) → ℕ → ℕ
count_below p zero = 0
count_below p (suc n) = cond (p n) 1 0 + count_below p n

pub below-none : (p : ℕ → Bool) → ((m : ℕ) → p m ≡ false) → (n : ℕ) → count_below p n ≡ 0
below-none p never zero = refl
below-none p never (suc n) =
    let here : cond (p n) 1 0 + count_below p n ≡ 0 + count_below p n = ap (λ b. cond b 1 0 + count_below p n) (never n) in
    let rest : count_below p n ≡ 0 = below-none p never n in
    let sum : cond (p n) 1 0 + count_below p n ≡ 0 = omega arith in
    sum

-- by two tests that say the same
pub below-same : (p q : ℕ → Bool) → ((m : ℕ) → p m ≡ q m) → (n : ℕ) → count_below p n ≡ count_below q n
below-same p q same zero = refl
below-same p q same (suc n) = ap (λ b. cond b 1 0 + count_below p n) (same n) ∙ ap (λ k. cond (q n) 1 0 + k) (below-same p q same n)

module _ (p q : ℕ → Bool) (t : ℕ) (more : (m : ℕ) → q m ≡ (t == m || p m)) where
  -- a number that passes already adds none
  pub below-again : p t ≡ true → (n : ℕ) → count_below q n ≡ count_below p n
  below-again here = below-same q p (λ m. more m ∙ by m (t == m) refl)
    where
      by : (m : ℕ) (b : Bool) → (t == m) ≡ b → (t == m || p m) ≡ p m
      by m true h = ap (λ b. b || p m) h ∙ sym (ap p (sym (eqb-true t m h)) ∙ here)
      by m false h = ap (λ b. b || p m) h

  -- nor one that isn't below
  below-past : (n : ℕ) → n ≤ t → count_below q n ≡ count_below p n
  below-past zero le = refl
  below-past (suc n) le =
      let apart : (t == n) ≡ false = ne_eqb t n (λ e. absurd (omega arith)) in
      ap (λ b. cond b 1 0 + count_below q n) (more n ∙ ap (λ b. b || p n) apart) ∙ ap (λ k. cond (p n) 1 0 + k) (below-past n (omega arith))

  -- any other adds one
  pub below-more : p t ≡ false → (n : ℕ) → t < n → count_below q n ≡ 1 + count_below p n
  below-more none zero lt = absurd (omega arith)
  below-more none (suc n) lt = by (below-more none n) (ltb t n) refl
    where
      by : (t < n → count_below q n ≡ 1 + count_below p n) → (b : Bool) → ltb t n ≡ b → count_below q (suc n) ≡ 1 + count_below p (suc n)
      by further true h =
          let less : t < n = ltb-true t n h in
          let apart : (t == n) ≡ false = ne_eqb t n (λ e. absurd (omega arith)) in
          let as_before : cond (q n) 1 0 + count_below q n ≡ cond (p n) 1 0 + count_below q n = ap (λ b. cond b 1 0 + count_below q n) (more n ∙ ap (λ b. b || p n) apart) in
          let rest : count_below q n ≡ 1 + count_below p n = further less in
          let sum : cond (q n) 1 0 + count_below q n ≡ 1 + (cond (p n) 1 0 + count_below p n) = omega arith in
          sum
      by further false h =
          let least : n ≤ t = ltb-false t n h in
          let same : t ≡ n = omega arith in
          let yes : cond (q n) 1 0 + count_below q n ≡ 1 + count_below q n = ap (λ b. cond b 1 0 + count_below q n) (more n ∙ ap (λ b. b || p n) (eq-eqb t n same)) in
          let no : cond (p n) 1 0 + count_below p n ≡ 0 + count_below p n = ap (λ b. cond b 1 0 + count_below p n) (ap p (sym same) ∙ none) in
          let rest : count_below q n ≡ count_below p n = below-past n least in
          let sum : cond (q n) 1 0 + count_below q n ≡ 1 + (cond (p n) 1 0 + count_below p n) = omega arith in
          sum

-- the different numbers of a list whose numbers are below the bound
pub different-below : (xs : List ℕ) (n : ℕ) → ((m : ℕ) → is_among xs m ≡ true → m < n) → different xs ≡ count_below (is_among xs) n
different-below [] n within = sym (below-none (is_among []) (λ m. refl) n)
different-below (x ∷ xs) n within = by (different-below xs n (λ m h. within m (ap (λ b. x == m || b) h ∙ or-true (x == m)))) (is_among xs x) refl
  where
    here : x < n
    here = within x (ap (λ b. b || is_among xs x) (eq-eqb x x refl))

    by : different xs ≡ count_below (is_among xs) n → (b : Bool) → is_among xs x ≡ b → different (x ∷ xs) ≡ count_below (is_among (x ∷ xs)) n
    by rest true h =
        let none : cond (is_among xs x) 0 1 + different xs ≡ 0 + different xs = ap (λ b. cond b 0 1 + different xs) h in
        let again : count_below (is_among (x ∷ xs)) n ≡ count_below (is_among xs) n = below-again (is_among xs) (is_among (x ∷ xs)) x (λ m. refl) h n in
        let sum : cond (is_among xs x) 0 1 + different xs ≡ count_below (is_among (x ∷ xs)) n = omega arith in
        sum
    by rest false h =
        let one : cond (is_among xs x) 0 1 + different xs ≡ 1 + different xs = ap (λ b. cond b 0 1 + different xs) h in
        let more : count_below (is_among (x ∷ xs)) n ≡ 1 + count_below (is_among xs) n = below-more (is_among xs) (is_among (x ∷ xs)) x (λ m. refl) h n here in
        let sum : cond (is_among xs x) 0 1 + different xs ≡ count_below (is_among (x ∷ xs)) n = omega arith in
        sum
