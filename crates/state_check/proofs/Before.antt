-- A relation of each item of a list to those behind it.
use Rattle.std.proofs.Common.{◌≡◌, ◌≤◌, ◌-◌, List, [], ◌∷◌, length, drop, take, slice_index_or, subst, sym, arith}
use Rattle.std.specs.List.{AllByRecursion}
use Rattle.std.proofs.lemmas.List.{take_all}
use Rattle.conf_types.specs.Lists.{EachBefore}

-- those behind the first
behind : {X : Type 0} (xs : List X) → take (length xs - 1) (drop 1 xs) ≡ drop 1 xs
behind {X = X} [] = take_all (length {A = X} [] - 1) [] (omega arith)
behind (y ∷ ys) = take_all (length (y ∷ ys) - 1) ys (omega arith)

pub each_before : {X : Type 0} (R : X → X → Type 0) (xs : List X) (x : X) → 1 ≤ length xs → x ≡ slice_index_or xs 0 x
    → AllByRecursion (R x) (take (length xs - 1) (drop 1 xs)) → EachBefore R (take (length xs - 1) (drop 1 xs)) → EachBefore R xs
each_before {X = X} R xs x some is all more = by xs some is (subst (AllByRecursion (R x)) (behind xs) all) (subst (EachBefore R) (behind xs) more)
  where
    by : (xs : List X) → 1 ≤ length xs → x ≡ slice_index_or xs 0 x → AllByRecursion (R x) (drop 1 xs) → EachBefore R (drop 1 xs) → EachBefore R xs
    by [] some is all more = absurd (omega (arith, some))
    by (y ∷ ys) some is all more = (subst (λ z. AllByRecursion (R z) ys) is all, more)

-- what holds of the first and of all behind it
pub all_by : {X : Type 0} (P : X → Type 0) (xs : List X) (x : X) → 1 ≤ length xs → x ≡ slice_index_or xs 0 x
    → P x → AllByRecursion P (take (length xs - 1) (drop 1 xs)) → AllByRecursion P xs
all_by {X = X} P xs x some is here more = by xs some is (subst (AllByRecursion P) (behind xs) more)
  where
    by : (xs : List X) → 1 ≤ length xs → x ≡ slice_index_or xs 0 x → AllByRecursion P (drop 1 xs) → AllByRecursion P xs
    by [] some is more = absurd (omega (arith, some))
    by (y ∷ ys) some is more = (subst P is here, more)

-- ---- and back

pub each_first : {X : Type 0} (R : X → X → Type 0) (xs : List X) (x : X) → 1 ≤ length xs → x ≡ slice_index_or xs 0 x
    → EachBefore R xs → AllByRecursion (R x) (take (length xs - 1) (drop 1 xs)) × EachBefore R (take (length xs - 1) (drop 1 xs))
each_first {X = X} R xs x some is all =
    let parts = by xs some is all in
    (subst (AllByRecursion (R x)) (sym (behind xs)) parts.0, subst (EachBefore R) (sym (behind xs)) parts.1)
  where
    by : (xs : List X) → 1 ≤ length xs → x ≡ slice_index_or xs 0 x → EachBefore R xs → AllByRecursion (R x) (drop 1 xs) × EachBefore R (drop 1 xs)
    by [] some is all = absurd (omega (arith, some))
    by (y ∷ ys) some is all = (subst (λ z. AllByRecursion (R z) ys) (sym is) all.0, all.1)

pub all_first : {X : Type 0} (P : X → Type 0) (xs : List X) (x : X) → 1 ≤ length xs → x ≡ slice_index_or xs 0 x
    → AllByRecursion P xs → P x × AllByRecursion P (take (length xs - 1) (drop 1 xs))
all_first {X = X} P xs x some is all =
    let parts = by xs some is all in (parts.0, subst (AllByRecursion P) (sym (behind xs)) parts.1)
  where
    by : (xs : List X) → 1 ≤ length xs → x ≡ slice_index_or xs 0 x → AllByRecursion P xs → P x × AllByRecursion P (drop 1 xs)
    by [] some is all = absurd (omega (arith, some))
    by (y ∷ ys) some is all = (subst P (sym is) all.0, all.1)
