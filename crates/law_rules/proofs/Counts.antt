-- Numbers of things: of two kinds, of pairs, of keys, of places.
use Rattle.std.specs.Prelude.{◌≡◌, ◌⊎◌, ℕ, zero, suc, ◌+◌, ◌*◌, ◌<◌, ◌≤◌, ◌==◌, Bool, true, false, cond, List, [], ◌∷◌, ◌++◌, length, map, Some, Contains, sum_by, count_by, slice_get}
use Rattle.std.specs.List.{AllByRecursion}
use Rattle.std.proofs.Common.{refl, sym, ap, ◌∙◌, subst, arith, inl, inr, true≢false, length-append, eqb-true}
use Rattle.std.proofs.lemmas.Bool.{eqb-false}
use Rattle.std.proofs.lemmas.List.Sums.{sum_by-cons}
use Rattle.std.proofs.lemmas.Option.{same_Some, none-some}
use Rattle.conf_types.specs.Lists.{EachBefore, AreDistinct}
use Rattle.law_checks.proofs.Members.{IsIn, of_all, all_by, in_front, behind, of_joined, in_mapped, of_mapped, before_mapped, before_joined, before_by}
use Rattle.law_rules.specs.Counted.{IsNumberOf}

-- ---- the two words for a member

pub contains : {A : Type 0} (xs : List A) (x : A) → IsIn xs x → Contains xs x
contains [] x i = absurd i
contains (y ∷ ys) x (inl e) = (zero, omega arith, e)
contains (y ∷ ys) x (inr i) = let c = contains ys x i in (suc c.0, omega (arith, c.1), c.2)

pub is_in : {A : Type 0} (xs : List A) (x : A) → Contains xs x → IsIn xs x
is_in [] x (k, lt, is) = absurd (omega (arith, lt))
is_in (y ∷ ys) x (zero, lt, is) = inl is
is_in (y ∷ ys) x (suc k, lt, is) = inr (is_in ys x (k, omega (arith, lt), is))

-- ---- a number by a list

module _ {A : Type 0} (P : A → Type 0) where
  pub by_list : (xs : List A) → AreDistinct xs → ((x : A) → IsIn xs x → P x) → ((x : A) → P x → IsIn xs x) → IsNumberOf P (length xs)
  by_list xs once only each = record {
    things = xs;
    lists = record { once = once; only = λ x c. only x (is_in xs x c); each = λ x p. contains xs x (each x p) };
    as_many = refl;
  }

  pub as_number : (m n : ℕ) → m ≡ n → IsNumberOf P n → IsNumberOf P m
  as_number m n e c = record { things = c.things; lists = c.lists; as_many = e ∙ c.as_many }

-- of what comes to the same
pub same_number : {A : Type 0} (P Q : A → Type 0) (n : ℕ) → ((x : A) → P x → Q x) → ((x : A) → Q x → P x) → IsNumberOf P n → IsNumberOf Q n
same_number P Q n there back c = record {
  things = c.things;
  lists = record { once = c.lists.once; only = λ x i. there x (c.lists.only x i); each = λ x q. c.lists.each x (back x q) };
  as_many = c.as_many;
}

-- of nothing
pub no_number : {A : Type 0} (P : A → Type 0) → ((x : A) → P x → ⊥) → IsNumberOf P 0
no_number P none = by_list P [] tt (λ x i. absurd i) (λ x p. absurd (none x p))

-- of two kinds that have nothing in common
pub number_of_both : {A : Type 0} (P Q : A → Type 0) (m n : ℕ) → ((x : A) → P x → Q x → ⊥) → IsNumberOf P m → IsNumberOf Q n → IsNumberOf (λ x. P x ⊎ Q x) (m + n)
number_of_both {A = A} P Q m n apart a b =
    as_number R (m + n) (length (a.things ++ b.things)) (omega (arith, a.as_many, b.as_many, length-append a.things b.things))
    (by_list R (a.things ++ b.things)
    (before_joined (λ x y. x ≡ y → ⊥) a.things b.things a.lists.once b.lists.once (all_by (λ x. AllByRecursion (λ y. x ≡ y → ⊥) b.things) a.things (λ x i. all_by (λ y. x ≡ y → ⊥) b.things (λ y j e. apart x (a.lists.only x (contains a.things x i)) (subst Q (sym e) (b.lists.only y (contains b.things y j)))))))
    (λ x i. split x (of_joined a.things b.things x i))
    joined)
  where
    R : A → Type 0
    R x = P x ⊎ Q x

    split : (x : A) → IsIn a.things x ⊎ IsIn b.things x → P x ⊎ Q x
    split x (inl i) = inl (a.lists.only x (contains a.things x i))
    split x (inr i) = inr (b.lists.only x (contains b.things x i))

    joined : (x : A) → P x ⊎ Q x → IsIn (a.things ++ b.things) x
    joined x (inl p) = in_front a.things b.things x (is_in a.things x (a.lists.each x p))
    joined x (inr q) = behind a.things b.things x (is_in b.things x (b.lists.each x q))

-- ---- of keys, of pairs, of places

pub mapped_distinct : {A B : Type 0} (f : A → B) (xs : List A) → EachBefore (λ x y. f x ≡ f y → ⊥) xs → AreDistinct (map f xs)
mapped_distinct f xs differ = before_mapped (λ a b. a ≡ b → ⊥) f xs differ

length_mapped : {A B : Type 0} (f : A → B) (xs : List A) → length (map f xs) ≡ length xs
length_mapped f [] = refl
length_mapped f (x ∷ xs) = omega (arith, length_mapped f xs)

-- of what things are turned into, where no two come to one
pub number_mapped : {A B : Type 0} (g : A → B) (P : A → Type 0) (n : ℕ) → ((x y : A) → g x ≡ g y → x ≡ y) → IsNumberOf P n → IsNumberOf (λ y. (x : A) × P x × (g x ≡ y)) n
number_mapped {A = A} {B = B} g P n one c =
    as_number Q n (length (map g c.things)) (omega (arith, c.as_many, length_mapped g c.things))
    (by_list Q (map g c.things) (mapped_distinct g c.things (before_by (λ x y. x ≡ y → ⊥) (λ x y. g x ≡ g y → ⊥) c.things c.lists.once (λ x y i j differ e. differ (one x y e))))
    (λ y i. let m = of_mapped g c.things y i in (m.0, c.lists.only m.0 (contains c.things m.0 m.1), m.2))
    (λ y q. subst (IsIn (map g c.things)) q.2 (in_mapped g c.things q.0 (is_in c.things q.0 (c.lists.each q.0 q.1)))))
  where
    Q : B → Type 0
    Q y = (x : A) × P x × (g x ≡ y)

module _ {A K : Type 0} (key : A → K) where
  -- the keys of a list
  pub number_of_keys : (xs : List A) → EachBefore (λ x y. key x ≡ key y → ⊥) xs → IsNumberOf (λ k. (x : A) × IsIn xs x × (key x ≡ k)) (length xs)
  number_of_keys xs differ =
      as_number P (length xs) (length (map key xs)) (sym (length_mapped key xs))
      (by_list P (map key xs) (mapped_distinct key xs differ) (λ k i. of_mapped key xs k i) (λ k p. subst (IsIn (map key xs)) p.2 (in_mapped key xs p.0 p.1)))
    where
      P : K → Type 0
      P k = (x : A) × IsIn xs x × (key x ≡ k)

  module _ {B : Type 0} (f : A → ℕ) (Q : A → B → Type 0) where
    -- the key of one of a list, and a thing that belongs to that one
    abbrev pub IsPair : List A → K × B → Type 0
    IsPair xs p = (x : A) × IsIn xs x × (key x ≡ p.0) × Q x p.1

    one_more : (x : A) (xs : List A) → AllByRecursion (λ y. key x ≡ key y → ⊥) xs → IsNumberOf (Q x) (f x) → IsNumberOf (IsPair xs) (sum_by f xs) → IsNumberOf (IsPair (x ∷ xs)) (sum_by f (x ∷ xs))
    one_more x xs differ first more =
        as_number (IsPair (x ∷ xs)) (sum_by f (x ∷ xs)) (length (here ++ more.things)) size (by_list (IsPair (x ∷ xs)) (here ++ more.things) once (λ p i. only p (of_joined here more.things p i)) joined)
      where
        paired : B → K × B
        paired y = (key x, y)

        here : List (K × B)
        here = map paired first.things

        size : sum_by f (x ∷ xs) ≡ length (here ++ more.things)
        size = omega (arith, sum_by-cons f x xs, first.as_many, more.as_many, length-append here more.things, length_mapped paired first.things)

        of_here : (p : K × B) → IsIn here p → (y : B) × IsIn first.things y × (paired y ≡ p)
        of_here p i = of_mapped paired first.things p i

        only : (p : K × B) → IsIn here p ⊎ IsIn more.things p → IsPair (x ∷ xs) p
        only p (inl i) = let m = of_here p i in (x, inl refl, ap (λ q. q.0) m.2, subst (Q x) (ap (λ q. q.1) m.2) (first.lists.only m.0 (contains first.things m.0 m.1)))
        only p (inr i) = let m = more.lists.only p (contains more.things p i) in (m.0, inr m.1, m.2, m.3)

        joined : (p : K × B) → IsPair (x ∷ xs) p → IsIn (here ++ more.things) p
        joined p (z, inl e, is, q) =
            let pair : paired p.1 ≡ p = ap (λ k. (k, p.1)) (ap key e ∙ is) in
            in_front here more.things p (subst (IsIn here) pair (in_mapped paired first.things p.1 (is_in first.things p.1 (first.lists.each p.1 (subst (λ w. Q w p.1) (sym e) q)))))
        joined p (z, inr i, is, q) = behind here more.things p (is_in more.things p (more.lists.each p (z, i, is, q)))

        apart : (p q : K × B) → IsIn here p → IsIn more.things q → p ≡ q → ⊥
        apart p q i j e =
            let a = of_here p i in
            let b = more.lists.only q (contains more.things q j) in
            of_all (λ y. key x ≡ key y → ⊥) xs differ b.0 b.1 (ap (λ r. r.0) a.2 ∙ ap (λ r. r.0) e ∙ sym b.2)

        once : AreDistinct (here ++ more.things)
        once =
            before_joined (λ p q. p ≡ q → ⊥) here more.things
            (before_mapped (λ p q. p ≡ q → ⊥) paired first.things (before_by (λ y z. y ≡ z → ⊥) (λ y z. paired y ≡ paired z → ⊥) first.things first.lists.once (λ y z i j differ e. differ (ap (λ p. p.1) e))))
            more.lists.once
            (all_by (λ p. AllByRecursion (λ q. p ≡ q → ⊥) more.things) here (λ p i. all_by (λ q. p ≡ q → ⊥) more.things (λ q j e. apart p q i j e)))

    pub number_of_pairs : (xs : List A) → EachBefore (λ x y. key x ≡ key y → ⊥) xs → AllByRecursion (λ x. IsNumberOf (Q x) (f x)) xs → IsNumberOf (IsPair xs) (sum_by f xs)
    number_of_pairs [] differ each = no_number (IsPair []) (λ p is. absurd is.1)
    number_of_pairs (x ∷ xs) differ each = one_more x xs differ.0 each.0 (number_of_pairs xs differ.1 each.1)

-- the keys of those that pass a test
pub number_passing : {A K : Type 0} (key : A → K) (test : A → Bool) (xs : List A) → EachBefore (λ x y. key x ≡ key y → ⊥) xs → IsNumberOf (λ k. (x : A) × IsIn xs x × (key x ≡ k) × (test x ≡ true)) (count_by test xs)
number_passing {A = A} {K = K} key test xs differ = pairs_to_keys (number_of_pairs key (λ x. cond (test x) 1 0) (λ x u. test x ≡ true) xs differ (all_by (λ x. IsNumberOf (λ (u : Unit {0}). test x ≡ true) (cond (test x) 1 0)) xs (λ x i. one x (test x) refl)))
  where
    one : (x : A) (b : Bool) → test x ≡ b → IsNumberOf (λ (u : Unit {0}). test x ≡ true) (cond b 1 0)
    one x true is = by_list (λ (u : Unit {0}). test x ≡ true) (tt ∷ []) (tt, tt) (λ u i. is) (λ u p. inl refl)
    one x false is = no_number (λ (u : Unit {0}). test x ≡ true) (λ u p. true≢false (sym p ∙ is))

    P : K → Type 0
    P k = (x : A) × IsIn xs x × (key x ≡ k) × (test x ≡ true)

    pairs_to_keys : IsNumberOf (IsPair key (λ x. cond (test x) 1 0) (λ x (u : Unit {0}). test x ≡ true) xs) (count_by test xs) → IsNumberOf P (count_by test xs)
    pairs_to_keys c =
        as_number P (count_by test xs) (length (map (λ p. p.0) c.things)) (omega (arith, c.as_many, length_mapped {A = K × Unit {0}} {B = K} (λ p. p.0) c.things))
        (by_list P (map (λ p. p.0) c.things)
        (before_mapped (λ a b. a ≡ b → ⊥) (λ p. p.0) c.things (before_by (λ p q. p ≡ q → ⊥) (λ p q. p.0 ≡ q.0 → ⊥) c.things c.lists.once (λ p q i j differ e. differ (ap (λ k. (k, tt)) e))))
        (λ k i. let m = of_mapped (λ p. p.0) c.things k i in let o = c.lists.only m.0 (contains c.things m.0 m.1) in (o.0, o.1, o.2 ∙ m.2, o.3))
        (λ k p. in_mapped (λ p. p.0) c.things (k, tt) (is_in c.things (k, tt) (c.lists.each (k, tt) p))))

-- the numbers below one
below : ℕ → List ℕ
below zero = []
below (suc n) = n ∷ below n

below_many : (n : ℕ) → n ≡ length (below n)
unfolding below
below_many zero = refl
below_many (suc n) = omega (arith, below_many n)

below_only : (n k : ℕ) → IsIn (below n) k → k < n
unfolding below
below_only zero k i = absurd i
below_only (suc n) k (inl e) = omega (arith, e)
below_only (suc n) k (inr i) = omega (arith, below_only n k i)

below_once : (n : ℕ) → AreDistinct (below n)
unfolding below
below_once zero = tt
below_once (suc n) = (all_by (λ k. n ≡ k → ⊥) (below n) (λ k i e. let less = below_only n k i in absurd (omega (arith, less, e))), below_once n)

below_each : (n k : ℕ) → k < n → IsIn (below n) k
unfolding below
below_each zero k less = absurd (omega (arith, less))
below_each (suc n) k less = by (below_each n k) (n == k) refl
  where
    by : (k < n → IsIn (below n) k) → (b : Bool) → (n == k) ≡ b → IsIn (below (suc n)) k
    by more true is = inl (eqb-true n k is)
    by more false is = inr (more (omega (arith, less, eqb-false n k is)))

pub number_below : (n : ℕ) → IsNumberOf (λ k. k < n) n
number_below n = as_number (λ k. k < n) n (length (below n)) (below_many n) (by_list (λ k. k < n) (below n) (below_once n) (below_only n) (below_each n))

abbrev one_less : ℕ → ℕ
one_less zero = zero
one_less (suc k) = k

-- a place of a list and a thing that belongs to what stands there
module _ {A B : Type 0} (f : A → ℕ) (Q : A → B → Type 0) where
  abbrev pub IsAtPlace : List A → ℕ × B → Type 0
  IsAtPlace xs p = (x : A) × (slice_get xs p.0 ≡ Some x) × Q x p.1

  one_place : (x : A) (xs : List A) → IsNumberOf (Q x) (f x) → IsNumberOf (IsAtPlace xs) (sum_by f xs) → IsNumberOf (IsAtPlace (x ∷ xs)) (sum_by f (x ∷ xs))
  one_place x xs first more =
      as_number (IsAtPlace (x ∷ xs)) (sum_by f (x ∷ xs)) (length (here ++ later)) size (by_list (IsAtPlace (x ∷ xs)) (here ++ later) once (λ p i. only p (of_joined here later p i)) joined)
    where
      at_first : B → ℕ × B
      at_first y = (0, y)

      moved : ℕ × B → ℕ × B
      moved p = (suc p.0, p.1)

      here : List (ℕ × B)
      here = map at_first first.things

      later : List (ℕ × B)
      later = map moved more.things

      size : sum_by f (x ∷ xs) ≡ length (here ++ later)
      size = omega (arith, sum_by-cons f x xs, first.as_many, more.as_many, length-append here later, length_mapped at_first first.things, length_mapped moved more.things)

      only : (p : ℕ × B) → IsIn here p ⊎ IsIn later p → IsAtPlace (x ∷ xs) p
      only p (inl i) = let m = of_mapped at_first first.things p i in subst (IsAtPlace (x ∷ xs)) m.2 (x, refl, first.lists.only m.0 (contains first.things m.0 m.1))
      only p (inr i) = let m = of_mapped moved more.things p i in subst (IsAtPlace (x ∷ xs)) m.2 (more.lists.only m.0 (contains more.things m.0 m.1))

      by_place : (k : ℕ) (y : B) → IsAtPlace (x ∷ xs) (k, y) → IsIn (here ++ later) (k, y)
      by_place zero y (z, is, q) = in_front here later (zero, y) (in_mapped at_first first.things y (is_in first.things y (first.lists.each y (subst (λ w. Q w y) (sym (same_Some x z is)) q))))
      by_place (suc k) y (z, is, q) = behind here later (suc k, y) (in_mapped moved more.things (k, y) (is_in more.things (k, y) (more.lists.each (k, y) (z, is, q))))

      joined : (p : ℕ × B) → IsAtPlace (x ∷ xs) p → IsIn (here ++ later) p
      joined p is = by_place p.0 p.1 is

      apart : (p q : ℕ × B) → IsIn here p → IsIn later q → p ≡ q → ⊥
      apart p q i j e =
          let a = of_mapped at_first first.things p i in
          let b = of_mapped moved more.things q j in
          let zero_is : 0 ≡ suc b.0.0 = ap (λ r. r.0) a.2 ∙ ap (λ r. r.0) e ∙ sym (ap (λ r. r.0) b.2) in
          omega (arith, zero_is)

      less_one : (p q : ℕ × B) → moved p ≡ moved q → p ≡ q
      less_one p q e = ap (λ r. (one_less r.0, r.1)) e

      once : AreDistinct (here ++ later)
      once =
          before_joined (λ p q. p ≡ q → ⊥) here later
          (before_mapped (λ p q. p ≡ q → ⊥) at_first first.things (before_by (λ y z. y ≡ z → ⊥) (λ y z. at_first y ≡ at_first z → ⊥) first.things first.lists.once (λ y z i j differ e. differ (ap (λ p. p.1) e))))
          (before_mapped (λ p q. p ≡ q → ⊥) moved more.things (before_by (λ p q. p ≡ q → ⊥) (λ p q. moved p ≡ moved q → ⊥) more.things more.lists.once (λ p q i j differ e. differ (less_one p q e))))
          (all_by (λ p. AllByRecursion (λ q. p ≡ q → ⊥) later) here (λ p i. all_by (λ q. p ≡ q → ⊥) later (λ q j e. apart p q i j e)))

  pub number_at_places : (xs : List A) → AllByRecursion (λ x. IsNumberOf (Q x) (f x)) xs → IsNumberOf (IsAtPlace xs) (sum_by f xs)
  number_at_places [] each = no_number (IsAtPlace []) (λ p is. none-some is.0 is.1)
  number_at_places (x ∷ xs) each = one_place x xs each.0 (number_at_places xs each.1)

-- one thing and another
pub number_of_products : {A B : Type 0} (P : A → Type 0) (Q : B → Type 0) (m n : ℕ) → IsNumberOf P m → IsNumberOf Q n → IsNumberOf (λ (p : A × B). P p.0 × Q p.1) (m * n)
number_of_products {A = A} {B = B} P Q m n a b =
    as_number R (m * n) (sum_by (λ x. n) a.things) (ap (λ k. k * n) a.as_many ∙ sym (product a.things))
    (same_number (IsPair (λ x. x) (λ x. n) (λ x y. Q y) a.things) R (sum_by (λ x. n) a.things)
    (λ p is. (subst P is.2 (a.lists.only is.0 (contains a.things is.0 is.1)), is.3))
    (λ p is. (p.0, is_in a.things p.0 (a.lists.each p.0 is.0), refl, is.1))
    (number_of_pairs (λ x. x) (λ x. n) (λ x y. Q y) a.things a.lists.once (all_by (λ x. IsNumberOf Q n) a.things (λ x i. b))))
  where
    R : A × B → Type 0
    R p = P p.0 × Q p.1

    product : (xs : List A) → sum_by (λ x. n) xs ≡ length xs * n
    product [] = omega arith
    product (x ∷ xs) = let more = product xs in sum_by-cons {X = A} (λ x. n) x xs ∙ ap (λ k. n + k) more ∙ omega arith

-- ---- one number

without : {A : Type 0} (ys : List A) (y : A) → IsIn ys y → (zs : List A) × (length ys ≡ 1 + length zs) × ((z : A) → IsIn ys z → (y ≡ z → ⊥) → IsIn zs z)
without [] y i = absurd i
without (x ∷ ys) y (inl e) = (ys, omega arith, λ z i differ. elim i [ inl f ↦ absurd (differ (sym e ∙ f)) | inr j ↦ j ])
without {A = A} (x ∷ ys) y (inr i) =
    let m = without ys y i in
    (x ∷ m.0, omega (arith, m.1), λ z j differ. elim j [ inl f ↦ inl f | inr k ↦ inr (m.2 z k differ) ])

pub no_more : {A : Type 0} (xs ys : List A) → AreDistinct xs → ((x : A) → IsIn xs x → IsIn ys x) → length xs ≤ length ys
no_more [] ys once all = omega arith
no_more (x ∷ xs) ys once all =
    let m = without ys x (all x (inl refl)) in
    let rest = no_more xs m.0 once.1 (λ z i. m.2 z (all z (inr i)) (of_all (λ y. x ≡ y → ⊥) xs once.0 z i)) in
    omega (arith, m.1, rest)

pub one_length : {A : Type 0} (xs ys : List A) → AreDistinct xs → AreDistinct ys → ((x : A) → Contains xs x → Contains ys x) → ((x : A) → Contains ys x → Contains xs x) → length xs ≡ length ys
one_length xs ys once also there back =
    let a = no_more xs ys once (λ x i. is_in ys x (there x (contains xs x i))) in
    let b = no_more ys xs also (λ x i. is_in xs x (back x (contains ys x i))) in
    omega (arith, a, b)
