-- How many of a list pass a test, where numbers tell its members apart.
use Rattle.std.proofs.Common.{◌≡◌, ℕ, zero, suc, ◌+◌, ◌<◌, ◌==◌, ◌&&◌, ◌||◌, not, Bool, true, false, cond, List, [], ◌∷◌, map, filter, refl, sym, ap, ◌∙◌, subst, arith, true≢false, eq-eqb, ne_eqb}
use Rattle.std.specs.Prelude.{Contains, count_by}
use Rattle.std.specs.List.{AllByRecursion}
use Rattle.std.proofs.lemmas.List.Sums.{sum_by-cons}
use Rattle.conf_types.specs.Lists.{EachBefore, is_among}
use Rattle.acl_compile.specs.Targets.{once}
use Rattle.law_runs.specs.Members.{of_all, all_by}

abbrev pub bit : Bool → ℕ
bit b = cond b 1 0

pub counted : {A : Type 0} (test : A → Bool) (x : A) (xs : List A) → count_by test (x ∷ xs) ≡ bit (test x) + count_by test xs
counted test x xs = sum_by-cons (λ y. cond (test y) 1 0) x xs

pub count_mapped : {A B : Type 0} (test : B → Bool) (f : A → B) (xs : List A) → count_by test (map f xs) ≡ count_by (λ x. test (f x)) xs
count_mapped test f [] = refl
count_mapped test f (x ∷ xs) =
    counted test (f x) (map f xs) ∙ ap (λ (n : ℕ). bit (test (f x)) + n) (count_mapped test f xs) ∙ sym (counted (λ y. test (f y)) x xs)

pub count_filtered : {A : Type 0} (test p : A → Bool) (xs : List A) → count_by test (filter p xs) ≡ count_by (λ x. p x && test x) xs
count_filtered test p [] = refl
count_filtered {A = A} test p (x ∷ xs) = by (p x) ∙ ap (λ (n : ℕ). bit (p x && test x) + n) (count_filtered test p xs) ∙ sym (counted (λ y. p y && test y) x xs)
  where
    by : (b : Bool) → count_by test (cond b (x ∷ filter p xs) (filter p xs)) ≡ bit (b && test x) + count_by test (filter p xs)
    by true = counted test x (filter p xs)
    by false = omega arith

pub count_alike : {A : Type 0} (f g : A → Bool) (xs : List A) → AllByRecursion (λ x. f x ≡ g x) xs → count_by f xs ≡ count_by g xs
count_alike f g [] all = refl
count_alike f g (x ∷ xs) all =
    counted f x xs ∙ ap (λ b. bit b + count_by f xs) all.0 ∙ ap (λ (n : ℕ). bit (g x) + n) (count_alike f g xs all.1) ∙ sym (counted g x xs)

pub count_none : {A : Type 0} (f : A → Bool) (xs : List A) → AllByRecursion (λ x. f x ≡ false) xs → count_by f xs ≡ 0
count_none f [] all = refl
count_none f (x ∷ xs) all = counted f x xs ∙ ap (λ b. bit b + count_by f xs) all.0 ∙ ap (λ (n : ℕ). 0 + n) (count_none f xs all.1)

pub and_false : (a : Bool) → (a && false) ≡ false
and_false true = refl
and_false false = refl

-- of the others the number itself is none
but_one : (m n : ℕ) (a t : Bool) → (not (m == n) && ((n == m || a) && t)) ≡ (a && (not (m == n) && t))
but_one m n a t = by (m == n) refl
  where
    by : (b : Bool) → (m == n) ≡ b → (not (m == n) && ((n == m || a) && t)) ≡ (a && (not (m == n) && t))
    by true is = rw is (sym (and_false a))
    by false is =
        let turned : (n == m) ≡ false = ne_eqb n m (λ e. true≢false (sym (eq-eqb m n (sym e)) ∙ is)) in
        rw is (rw turned refl)

module _ {A : Type 0} (key : A → ℕ) where
  -- one member, and those with other numbers
  pub count_apart : (f : A → Bool) (xs : List A) → EachBefore (λ x y. key x < key y) xs → (y : A) → Contains xs y
      → count_by f xs ≡ bit (f y) + count_by (λ x. not (key x == key y) && f x) xs
  count_apart f [] order y (k, lt, is) = absurd (omega (arith, lt))
  count_apart f (x ∷ xs) order y (zero, lt, is) =
      let rest : count_by f xs ≡ count_by (λ z. not (key z == key x) && f z) xs =
      count_alike f (λ z. not (key z == key x) && f z) xs (all_by (λ z. f z ≡ (not (key z == key x) && f z)) xs (λ z c.
      let less = of_all (λ w. key x < key w) xs order.0 z c in
      ap (λ b. not b && f z) (sym (ne_eqb (key z) (key x) (λ e. omega (arith, e, less)))))) in
      let itself : count_by (λ z. not (key z == key x) && f z) (x ∷ xs) ≡ count_by (λ z. not (key z == key x) && f z) xs =
      counted (λ z. not (key z == key x) && f z) x xs ∙ ap (λ b. bit (not b && f x) + count_by (λ z. not (key z == key x) && f z) xs) (eq-eqb (key x) (key x) refl) ∙ omega arith in
      subst (λ w. count_by f (x ∷ xs) ≡ bit (f w) + count_by (λ z. not (key z == key w) && f z) (x ∷ xs)) is
      (counted f x xs ∙ ap (λ (n : ℕ). bit (f x) + n) (rest ∙ sym itself))
  count_apart f (x ∷ xs) order y (suc k, lt, is) =
      let within : Contains xs y = (k, omega (arith, lt), is) in
      let less = of_all (λ w. key x < key w) xs order.0 y within in
      let more = count_apart f xs order.1 y within in
      let first = counted f x xs in
      let other : count_by (λ z. not (key z == key y) && f z) (x ∷ xs) ≡ bit (f x) + count_by (λ z. not (key z == key y) && f z) xs =
      counted (λ z. not (key z == key y) && f z) x xs ∙ ap (λ b. bit (not b && f x) + count_by (λ z. not (key z == key y) && f z) xs) (ne_eqb (key x) (key y) (λ e. omega (arith, e, less))) in
      omega (arith, more, first, other)

  one_more : (n : ℕ) (ns : List ℕ) (test : ℕ → Bool) (xs : List A) (y : A) → key y ≡ n
      → bit (is_among (n ∷ ns) (key y) && test (key y)) + count_by (λ x. not (key x == key y) && (is_among (n ∷ ns) (key x) && test (key x))) xs
      ≡ bit (test n) + count_by (λ x. is_among ns (key x) && (not (key x == n) && test (key x))) xs
  one_more n ns test xs y is =
      subst (λ m. bit (is_among (m ∷ ns) (key y) && test (key y)) + count_by (λ x. not (key x == key y) && (is_among (m ∷ ns) (key x) && test (key x))) xs ≡ bit (test m) + count_by (λ x. is_among ns (key x) && (not (key x == m) && test (key x))) xs) is
      (ap (λ b. bit ((b || is_among ns (key y)) && test (key y)) + count_by (λ x. not (key x == key y) && (is_among (key y ∷ ns) (key x) && test (key x))) xs) (eq-eqb (key y) (key y) refl)
      ∙ ap (λ (c : ℕ). bit (test (key y)) + c) (count_alike (λ x. not (key x == key y) && (is_among (key y ∷ ns) (key x) && test (key x))) (λ x. is_among ns (key x) && (not (key x == key y) && test (key x))) xs
      (all_by (λ x. (not (key x == key y) && (is_among (key y ∷ ns) (key x) && test (key x))) ≡ (is_among ns (key x) && (not (key x == key y) && test (key x)))) xs (λ x c. but_one (key x) (key y) (is_among ns (key x)) (test (key x))))))

  -- numbers of members, each once, are counted as the members are
  pub once_counts : (xs : List A) → EachBefore (λ x y. key x < key y) xs → (ns : List ℕ) → AllByRecursion (λ n. (x : A) × Contains xs x × (key x ≡ n)) ns → (test : ℕ → Bool)
      → count_by test (once ns) ≡ count_by (λ x. is_among ns (key x) && test (key x)) xs
  once_counts xs order [] all test = sym (count_none (λ x. false) xs (all_by (λ x. false ≡ false) xs (λ x c. refl)))
  once_counts xs order (n ∷ ns) all test =
      counted test n (filter (λ m. not (m == n)) (once ns))
      ∙ ap (λ (c : ℕ). bit (test n) + c) (count_filtered test (λ m. not (m == n)) (once ns) ∙ once_counts xs order ns all.1 (λ m. not (m == n) && test m))
      ∙ sym (count_apart (λ x. is_among (n ∷ ns) (key x) && test (key x)) xs order (all.0).0 (all.0).1 ∙ one_more n ns test xs (all.0).0 (all.0).2)
