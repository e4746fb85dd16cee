-- What stands in lists that are made of others, and lists of which each stands so to those behind it.
use Rattle.std.proofs.Common.{◌≡◌, ◌∙◌, zero, suc, Option, Some, None, List, [], ◌∷◌, ◌++◌, refl, inl, inr, sym, ap, subst, arith}
use Rattle.std.specs.Prelude.{Contains}
use Rattle.std.specs.List.{AllByRecursion, filter_map, flat_map, cons_option}
use Rattle.std.proofs.lemmas.List.Elements.{All-weaker, All-contains_itself, recursion_from_All, Contains-append_cases, Contains-append_left, Contains-append_right}
use Rattle.conf_types.specs.Lists.{EachBefore}
use Rattle.conf_types.proofs.Found.{of_all}

-- ---- one behind another

here : {X : Type 0} (x : X) (xs : List X) → Contains (x ∷ xs) x
here x xs = (zero, omega arith, refl)

there : {X : Type 0} (x y : X) (xs : List X) → Contains xs y → Contains (x ∷ xs) y
there x y xs c = Contains-append_right (x ∷ []) xs y c

-- ---- what lists are made of

pub in_flat_map : {X Y : Type 0} (f : X → List Y) (xs : List X) (y : Y) → Contains (flat_map f xs) y → (x : X) × Contains xs x × Contains (f x) y
in_flat_map f [] y c = absurd (omega (arith, c.1))
in_flat_map f (x ∷ xs) y c =
    elim (Contains-append_cases (f x) (flat_map f xs) y c) [
      | inl first ↦ (x, here x xs, first)
      | inr more ↦ let rest = in_flat_map f xs y more in (rest.0, there x rest.0 xs rest.1, rest.2)
    ]

pub into_flat_map : {X Y : Type 0} (f : X → List Y) (xs : List X) (x : X) (y : Y) → Contains xs x → Contains (f x) y → Contains (flat_map f xs) y
into_flat_map f [] x y c d = absurd (omega (arith, c.1))
into_flat_map f (z ∷ xs) x y (zero, lt, is) d = Contains-append_left (f z) (flat_map f xs) y (subst (λ w. Contains (f w) y) (sym is) d)
into_flat_map f (z ∷ xs) x y (suc k, lt, is) d = Contains-append_right (f z) (flat_map f xs) y (into_flat_map f xs x y (k, omega (arith, lt), is) d)

pub in_filter_map : {X Y : Type 0} (h : X → Option Y) (xs : List X) (y : Y) → Contains (filter_map h xs) y → (x : X) × Contains xs x × (h x ≡ Some y)
in_filter_map h [] y c = absurd (omega (arith, c.1))
in_filter_map {X = X} {Y = Y} h (x ∷ xs) y c = by (h x) refl (λ d. in_filter_map h xs y d) c
  where
    further : (z : X) × Contains xs z × (h z ≡ Some y) → (z : X) × Contains (x ∷ xs) z × (h z ≡ Some y)
    further rest = (rest.0, there x rest.0 xs rest.1, rest.2)

    by : (o : Option Y) → h x ≡ o → (Contains (filter_map h xs) y → (z : X) × Contains xs z × (h z ≡ Some y)) → Contains (cons_option o (filter_map h xs)) y → (z : X) × Contains (x ∷ xs) z × (h z ≡ Some y)
    by None none more d = further (more d)
    by (Some w) some more (zero, lt, is) = (x, here x xs, some ∙ ap Some is)
    by (Some w) some more (suc k, lt, is) = further (more (k, omega (arith, lt), is))

pub into_filter_map : {X Y : Type 0} (h : X → Option Y) (xs : List X) (x : X) (y : Y) → Contains xs x → h x ≡ Some y → Contains (filter_map h xs) y
into_filter_map h [] x y c is = absurd (omega (arith, c.1))
into_filter_map {Y = Y} h (z ∷ xs) x y (zero, lt, same) is = subst (λ (o : Option Y). Contains (cons_option o (filter_map h xs)) y) (sym is ∙ ap h (sym same)) (here y (filter_map h xs))
into_filter_map {Y = Y} h (z ∷ xs) x y (suc k, lt, same) is = by (h z) (into_filter_map h xs x y (k, omega (arith, lt), same) is)
  where
    by : (o : Option Y) → Contains (filter_map h xs) y → Contains (cons_option o (filter_map h xs)) y
    by None d = d
    by (Some w) d = there w y (filter_map h xs) d

-- ---- each stands so to those behind it

all_of : {X : Type 0} (P : X → Type 0) (xs : List X) → ((x : X) → Contains xs x → P x) → AllByRecursion P xs
all_of P xs h = recursion_from_All P xs (All-weaker (Contains xs) P h xs (All-contains_itself xs))

joined : {X : Type 0} (R : X → X → Type 0) (xs ys : List X) → EachBefore R xs → EachBefore R ys → ((x y : X) → Contains xs x → Contains ys y → R x y) → EachBefore R (xs ++ ys)
joined R [] ys a b h = b
joined R (x ∷ xs) ys a b h = (
  all_of (R x) (xs ++ ys) (λ y c. elim (Contains-append_cases xs ys y c) [
    | inl first ↦ of_all (R x) xs y a.0 first
    | inr more ↦ h x y (here x xs) more
  ]),
  joined R xs ys a.1 b (λ z y c d. h z y (there x z xs c) d),
)

pub of_flat_map : {X Y : Type 0} (S : X → X → Type 0) (R : Y → Y → Type 0) (f : X → List Y) (xs : List X) → EachBefore S xs → ((x : X) → Contains xs x → EachBefore R (f x))
    → ((x z : X) (y w : Y) → S x z → Contains (f x) y → Contains (f z) w → R y w) → EachBefore R (flat_map f xs)
of_flat_map S R f [] before each across = tt
of_flat_map S R f (x ∷ xs) before each across =
    joined R (f x) (flat_map f xs) (each x (here x xs)) (of_flat_map S R f xs before.1 (λ z c. each z (there x z xs c)) across)
    (λ y w c d. let from = in_flat_map f xs w d in across x from.0 y w (of_all (S x) xs from.0 before.0 from.1) c from.2)

pub of_filter_map : {X Y : Type 0} (S : X → X → Type 0) (R : Y → Y → Type 0) (h : X → Option Y) (xs : List X) → EachBefore S xs
    → ((x z : X) (y w : Y) → S x z → h x ≡ Some y → h z ≡ Some w → R y w) → EachBefore R (filter_map h xs)
of_filter_map S R h [] before across = tt
of_filter_map S R h (x ∷ xs) before across =
    elim (h x) as (λ o. h x ≡ o → EachBefore R (cons_option o (filter_map h xs))) [
      | None ↦ λ none. of_filter_map S R h xs before.1 across
      | Some y ↦ λ some. (all_of (R y) (filter_map h xs) (λ w c. let from = in_filter_map h xs w c in across x from.0 y w (of_all (S x) xs from.0 before.0 from.1) some from.2), of_filter_map S R h xs before.1 across)
    ] refl

pub weaker : {X : Type 0} (P : X → Type 0) (R S : X → X → Type 0) → ((x y : X) → P x → P y → R x y → S x y) → (xs : List X) → ((x : X) → Contains xs x → P x) → EachBefore R xs → EachBefore S xs
weaker P R S h [] each before = tt
weaker P R S h (x ∷ xs) each before =
    (all_of (S x) xs (λ y c. h x y (each x (here x xs)) (each y (there x y xs c)) (of_all (R x) xs y before.0 c)), weaker P R S h xs (λ y c. each y (there x y xs c)) before.1)
