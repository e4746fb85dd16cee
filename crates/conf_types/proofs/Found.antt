-- What is found in lists: by halving where numbers rise, and what holds of it.
use Rattle.std.proofs.Common.{◌≡◌, ℕ, zero, suc, ◌+◌, ◌<◌, ◌==◌, Bool, true, false, cond, Some, None, List, [], ◌∷◌, length, get_or, Result, Ok, Err, refl, inl, inr, sym, ap, ◌∙◌, arith, eq-eqb, subst, MatchResult}
use Rattle.std.specs.Prelude.{Contains}
use Rattle.std.specs.List.{AllByRecursion, find}
use Rattle.std.specs.Ordering.{nat_cmp, ordering_index, is_lt}
use Rattle.std.specs.declared.cmp.Ordering.TheVariants.{Less, Equal, Greater}
use Rattle.std.specs.List.Sorted.{IsSearchInRange, IsBinarySearchResult, IsNonDecreasingBy}
use Rattle.std.proofs.lemmas.Bool.{cases_lt, ne_eqb}
use Rattle.std.proofs.lemmas.Bool.Decides.{nat_tests}
use Rattle.std.proofs.lemmas.Cmp.{ranked, nat_cmp_total}
use Rattle.std.proofs.lemmas.List.Sorted.{searchable_from_sorted}
use Rattle.conf_types.specs.Lists.{EachBefore}

-- what holds of each holds of the one that is found
pub all_found : {X : Type 0} (P : X → Type 0) (p : X → Bool) (xs : List X) (x : X) → AllByRecursion P xs → find p xs ≡ Some x → P x
all_found P p [] x all is = absurd (cc)
all_found P p (y ∷ ys) x all is =
    elim (p y) as (λ b. cond b (Some y) (find p ys) ≡ Some x → P x) [
      | true ↦ λ e. let same : y ≡ x = cc in subst P same all.0
      | false ↦ λ e. all_found P p ys x all.1 e
    ] is

-- and of the one at a place
pub all_at : {X : Type 0} (P : X → Type 0) (xs : List X) → AllByRecursion P xs → (i : ℕ) (d : X) → i < length xs → P (get_or xs i d)
all_at P [] all i d lt = absurd (omega arith)
all_at P (x ∷ xs) all zero d lt = all.0
all_at P (x ∷ xs) all (suc i) d lt = all_at P xs all.1 i d (omega arith)

-- and of each that stands in the list
pub of_all : {X : Type 0} (P : X → Type 0) (xs : List X) (x : X) → AllByRecursion P xs → Contains xs x → P x
of_all P xs x all c = subst P c.2 (all_at P xs all c.0 x c.1)

-- each stands so to those behind it, by places
pub before_at : {X : Type 0} (R : X → X → Type 0) (xs : List X) → EachBefore R xs → (i j : ℕ) (d : X) → i < j → j < length xs → R (get_or xs i d) (get_or xs j d)
before_at R [] r i j d lt within = absurd (omega arith)
before_at R (x ∷ xs) r i zero d lt within = absurd (omega arith)
before_at R (x ∷ xs) r zero (suc j) d lt within = all_at (R x) xs r.0 j d (omega arith)
before_at R (x ∷ xs) r (suc i) (suc j) d lt within = before_at R xs r.1 i j d (omega arith) (omega arith)

-- what is found is one of them, and passes
pub found : {X : Type 0} (p : X → Bool) (xs : List X) (x : X) → find p xs ≡ Some x → Contains xs x × (p x ≡ true)
found p [] x is = absurd cc
found p (y ∷ ys) x is =
    elim (p y) as (λ b. p y ≡ b → cond b (Some y) (find p ys) ≡ Some x → Contains (y ∷ ys) x × (p x ≡ true)) [
      | true ↦ λ passes e. let same : y ≡ x = cc in (subst (λ z. Contains (y ∷ ys) z) same (zero, omega arith, refl), subst (λ z. p z ≡ true) same passes)
      | false ↦ λ fails e. let rest = found p ys x e in let within = rest.0 in ((suc within.0, omega (arith, within.1), within.2), rest.1)
    ] refl is

-- one that has its key alone is found by it
pub finds : {X : Type 0} (key : X → ℕ) (R : X → X → Type 0) → ((a b : X) → R a b → key a ≡ key b → ⊥) → (xs : List X) (x : X) → EachBefore R xs → Contains xs x → find (λ y. key y == key x) xs ≡ Some x
finds key R apart [] x before c = absurd (omega (arith, c.1))
finds key R apart (y ∷ ys) x before (zero, lt, is) = rw (eq-eqb (key y) (key x) (ap key is)) (ap Some is)
finds key R apart (y ∷ ys) x before (suc k, lt, is) =
    let more : Contains ys x = (k, omega (arith, lt), is) in
    rw (ne_eqb (key y) (key x) (apart y x (of_all (R y) ys x before.0 more))) (finds key R apart ys x before.1 more)

-- ---- comparisons of numbers

unequal : (a b : ℕ) → (a ≡ b → ⊥) → (a == b) ≡ false
unequal a b ne = grind (arith, nat_tests)

differs : (a b : ℕ) → a < b → (a == b) ≡ false
differs a b lt = grind (arith, nat_tests)

not_less : (a b : ℕ) → a < b → is_lt (nat_cmp b a) ≡ false
not_less a b lt = grind (arith, nat_tests)

is_equal : (a b : ℕ) → nat_cmp a b ≡ Equal → a ≡ b
is_equal a b is = ranked a b Equal (sym is)

not_equal_less : (a b : ℕ) → a ≡ b → nat_cmp a b ≡ Less → ⊥
not_equal_less a b same less = let below : a < b = ranked a b Less (sym less) in omega arith

not_equal_greater : (a b : ℕ) → a ≡ b → nat_cmp a b ≡ Greater → ⊥
not_equal_greater a b same greater = let above : b < a = ranked a b Greater (sym greater) in omega arith

-- ---- numbers that rise

module _ {X : Type 0} (key : X → ℕ) where
  abbrev Rises : List X → Type 0
  Rises = EachBefore (λ x y. key x < key y)

  -- where a number that rises is met, it is the first with it
  found_here : (n : ℕ) (xs : List X) → Rises xs → (i : ℕ) (d : X) → i < length xs → key (get_or xs i d) ≡ n → find (λ x. key x == n) xs ≡ Some (get_or xs i d)
  found_here n [] r i d lt is = absurd (omega arith)
  found_here n (x ∷ xs) r zero d lt is = ap (λ b. cond b (Some x) (find (λ x. key x == n) xs)) (eq-eqb (key x) n is)
  found_here n (x ∷ xs) r (suc i) d lt is =
      let below : key x < key (get_or xs i d) = all_at (λ y. key x < key y) xs r.0 i d (omega arith) in
      ap (λ b. cond b (Some x) (find (λ x. key x == n) xs)) (differs (key x) n (omega arith)) ∙ found_here n xs r.1 i d (omega arith) is

  not_found : (n : ℕ) (xs : List X) → ((i : ℕ) (d : X) → i < length xs → key (get_or xs i d) ≡ n → ⊥) → find (λ x. key x == n) xs ≡ None
  not_found n [] none = refl
  not_found n (x ∷ xs) none =
      ap (λ b. cond b (Some x) (find (λ x. key x == n) xs)) (unequal (key x) n (none 0 x (omega arith))) ∙ not_found n xs (λ i d lt. none (suc i) d (omega arith))

  -- the comparisons with a number rise, as a binary search asks
  comparisons_rise : (n : ℕ) (xs : List X) → Rises xs → IsNonDecreasingBy (λ x. ordering_index (nat_cmp (key x) n)) xs
  comparisons_rise n xs r = searchable_from_sorted nat_cmp_total key xs n (λ k d low high. not_less _ _ (before_at (λ x y. key x < key y) xs r k (k + 1) d (omega arith) high))

  -- what a binary search for a number answers
  abbrev IsFound : ℕ → List X → Result ℕ ℕ → Type 0
  IsFound n xs r = MatchResult r (λ i. (d : X) → find (λ x. key x == n) xs ≡ Some (get_or xs i d)) (λ i. find (λ x. key x == n) xs ≡ None)

  pub searched : (n : ℕ) (xs : List X) → Rises xs → (r : Result ℕ ℕ) → IsSearchInRange r (length xs) → IsBinarySearchResult (λ x. nat_cmp (key x) n) xs r → IsFound n xs r
  searched n xs r (Ok i) within equal = λ d. found_here n xs r i d within (is_equal _ _ (equal d))
  searched n xs r (Err i) within parted =
      let p = parted (comparisons_rise n xs r) in
      not_found n xs (λ j d lt is. elim (cases_lt j i) [ inl l ↦ not_equal_less _ _ is (p.0 j d (omega arith) l) | inr l ↦ not_equal_greater _ _ is (p.1 j d l lt) ])
