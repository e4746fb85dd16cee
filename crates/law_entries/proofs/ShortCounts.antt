-- How long lists are that are made of others.
use Rattle.std.specs.Prelude.{◌≡◌, ℕ, zero, suc, ◌+◌, ◌*◌, ◌≤◌, ◌==◌, not, Bool, true, false, cond, List, [], ◌∷◌, length, filter, Contains, count_by}
use Rattle.std.specs.List.{AllByRecursion, flat_map}
use Rattle.std.proofs.Common.{refl, sym, ap, ◌∙◌, subst, arith, true≢false, eqb-true, eq-eqb}
use Rattle.std.proofs.lemmas.List.{length-append}
use Rattle.std.proofs.lemmas.List.Sums.{length-filter, count_by-le-length, sum_by-le-sum_by}
use Rattle.conf_types.specs.Lists.{EachBefore}
use Rattle.acl_compile.specs.Targets.{once}
use Rattle.law_runs.specs.Members.{all_filtered, all_by, of_all}

module _ {A : Type 0} where
  -- a part is no longer than the whole
  pub filter_fewer : (p : A → Bool) (xs : List A) → length (filter p xs) ≤ length xs
  filter_fewer p xs = let same = length-filter p xs in let less = count_by-le-length p xs in omega (arith, same, less)

  -- of those that pass a harder test there are no more
  pub filter_count : (p q : A → Bool) (xs : List A) → ((x : A) → p x ≡ true → q x ≡ true) → length (filter p xs) ≤ count_by q xs
  filter_count p q xs harder =
      let same = length-filter p xs in
      let less = sum_by-le-sum_by (λ x. cond (p x) 1 0) (λ x. cond (q x) 1 0) xs (λ x. one (p x) (q x) (harder x)) in
      omega (arith, same, less)
    where
      one : (a b : Bool) → (a ≡ true → b ≡ true) → cond a 1 0 ≤ cond b 1 0
      one false b h = omega arith
      one true true h = omega arith
      one true false h = absurd (true≢false (sym (h refl)))

  -- those that fail a test and those that pass it are all
  pub filter_parts : (p : A → Bool) (xs : List A) → length (filter (λ x. not (p x)) xs) + length (filter p xs) ≡ length xs
  filter_parts p [] = refl
  filter_parts p (x ∷ xs) = by (p x) (filter_parts p xs)
    where
      by : (b : Bool) → length (filter (λ x. not (p x)) xs) + length (filter p xs) ≡ length xs → length (cond (not b) (x ∷ filter (λ x. not (p x)) xs) (filter (λ x. not (p x)) xs)) + length (cond b (x ∷ filter p xs) (filter p xs)) ≡ length (x ∷ xs)
      by true more = omega (arith, more)
      by false more = omega (arith, more)

  -- each gives at most so many
  pub flat_fewer : {B : Type 0} (f : A → List B) (most : ℕ) (xs : List A) → AllByRecursion (λ x. length (f x) ≤ most) xs → length (flat_map f xs) ≤ length xs * most
  flat_fewer f most [] all = omega arith
  flat_fewer f most (x ∷ xs) all =
      let both = length-append (f x) (flat_map f xs) in
      let first = all.0 in
      let more = flat_fewer f most xs all.1 in
      omega (arith, both, first, more)

  -- an order holds of a part too
  pub before_filtered : (R : A → A → Type 0) (p : A → Bool) (xs : List A) → EachBefore R xs → EachBefore R (filter p xs)
  before_filtered R p [] h = tt
  before_filtered R p (x ∷ xs) h = by (p x) (before_filtered R p xs h.1)
    where
      rest : AllByRecursion (R x) (filter p xs)
      rest = all_filtered (R x) p xs (all_by (λ y. p y ≡ true → R x y) xs (λ y c is. of_all (R x) xs h.0 y c))

      by : (b : Bool) → EachBefore R (filter p xs) → EachBefore R (cond b (x ∷ filter p xs) (filter p xs))
      by true more = (rest, more)
      by false more = more

-- ---- numbers, each once

abbrev others : ℕ → List ℕ → List ℕ
others x ns = filter (λ m. not (m == x)) ns

abbrev Differ : ℕ → ℕ → Type 0
Differ m n = (n == m) ≡ false

fails : (b : Bool) → not b ≡ true → b ≡ false
fails true is = absurd (true≢false (sym is))
fails false is = refl

once_differ : (ns : List ℕ) → EachBefore Differ (once ns)
once_differ [] = tt
once_differ (n ∷ more) = (
  all_filtered (Differ n) (λ m. not (m == n)) (once more) (all_by (λ m. not (m == n) ≡ true → Differ n m) (once more) (λ m c is. fails (m == n) is)),
  before_filtered Differ (λ m. not (m == n)) (once more) (once_differ more),
)

all_once : (P : ℕ → Type 0) (ns : List ℕ) → AllByRecursion P ns → AllByRecursion P (once ns)
all_once P [] all = tt
all_once P (n ∷ more) all =
    let rest = all_once P more all.1 in
    (all.0, all_filtered P (λ m. not (m == n)) (once more) (all_by (λ m. not (m == n) ≡ true → P m) (once more) (λ m c is. of_all P (once more) rest m c)))

all_stay : (x : ℕ) (ns : List ℕ) → AllByRecursion (Differ x) ns → others x ns ≡ ns
all_stay x [] all = refl
all_stay x (n ∷ ns) all = ap (λ b. cond (not b) (n ∷ others x ns) (others x ns)) all.0 ∙ ap (λ l. n ∷ l) (all_stay x ns all.1)

-- at most one of them is x
one_less : (x : ℕ) (ns : List ℕ) → EachBefore Differ ns → length ns ≤ 1 + length (others x ns)
one_less x [] h = omega arith
one_less x (n ∷ ns) h = by (n == x) refl (one_less x ns h.1)
  where
    by : (b : Bool) → (n == x) ≡ b → length ns ≤ 1 + length (others x ns) → length (n ∷ ns) ≤ 1 + length (cond (not b) (n ∷ others x ns) (others x ns))
    by false is more = omega (arith, more)
    by true is more =
        let same : n ≡ x = eqb-true n x is in
        let stay : length (others x ns) ≡ length ns = ap length (all_stay x ns (subst (λ m. AllByRecursion (Differ m) ns) same h.0)) in
        omega (arith, stay)

elsewhere : (x : ℕ) (xs : List ℕ) (m : ℕ) → (m == x) ≡ false → Contains (x ∷ xs) m → Contains xs m
elsewhere x xs m differs (zero, lt, is) = absurd (true≢false (sym (eq-eqb m x (sym is)) ∙ differs))
elsewhere x xs m differs (suc k, lt, is) = (k, omega (arith, lt), is)

-- different numbers from a list are no more than the list has
fewer : (xs ns : List ℕ) → EachBefore Differ ns → AllByRecursion (λ n. Contains xs n) ns → length ns ≤ length xs
fewer xs [] h all = omega arith
fewer [] (n ∷ ns) h all = nowhere all.0
  where
    nowhere : Contains [] n → length (n ∷ ns) ≤ 0
    nowhere (k, lt, is) = absurd (omega (arith, lt))
fewer (x ∷ xs) (n ∷ ns) h all =
    let less = one_less x (n ∷ ns) h in
    let more = fewer xs (others x (n ∷ ns)) (before_filtered Differ (λ m. not (m == x)) (n ∷ ns) h)
    (all_filtered (λ m. Contains xs m) (λ m. not (m == x)) (n ∷ ns) (all_by (λ m. not (m == x) ≡ true → Contains xs m) (n ∷ ns)
    (λ m c is. elsewhere x xs m (fails (m == x) is) (of_all (λ k. Contains (x ∷ xs) k) (n ∷ ns) all m c)))) in
    omega (arith, less, more)

pub once_fewer : (xs ns : List ℕ) → AllByRecursion (λ n. Contains xs n) ns → length (once ns) ≤ length xs
once_fewer xs ns all = fewer xs (once ns) (once_differ ns) (all_once (λ n. Contains xs n) ns all)
