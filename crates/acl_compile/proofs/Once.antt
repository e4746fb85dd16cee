-- Each number once, one after the other.
use Rattle.std.proofs.Common.{◌≡◌, ℕ, ◌+◌, ◌<◌, ◌==◌, ◌||◌, not, Bool, true, false, cond, if◌then◌else◌, Option, Some, None, List, [], ◌∷◌, ◌++◌, length, get_or, take, filter, refl, sym, ap, ◌∙◌, inl, inr, append_assoc, append-nil, arith}
use Rattle.std.specs.Prelude.{fold}
use Rattle.std.specs.List.{filter_map, cons_option, list_any}
use Rattle.std.specs.Option.{option_map_or}
use Rattle.std.proofs.lemmas.Bool.{cases_Bool, eqb-true}
use Rattle.std.proofs.lemmas.Bool.Decides.{nat_tests}
use Rattle.std.proofs.lemmas.List.{take_more}
use Rattle.std.proofs.lemmas.List.Elements.{filter-append, filter_map-append}
use Rattle.std.proofs.lemmas.List.Sums.{fold-append}
use Rattle.conf_types.specs.Lists.{is_among}
use Rattle.acl_compile.specs.Targets.{once, with_one}

abbrev others : ℕ → List ℕ → List ℕ
others y ns = filter (λ m. not (m == y)) ns

-- what is left out isn't asked for
among_others : (y n : ℕ) (ns : List ℕ) → (y == n) ≡ false → is_among (others y ns) n ≡ is_among ns n
among_others y n [] ne = refl
among_others y n (z ∷ zs) ne = elim (cases_Bool (z == y)) [
  | inl same ↦
      let is : z ≡ y = eqb-true z y same in
      ap (λ b. is_among (cond (not b) (z ∷ others y zs) (others y zs)) n) same ∙ among_others y n zs ne ∙ ap (λ b. b || is_among zs n) (sym ne ∙ ap (λ x. x == n) (sym is))
  | inr other ↦
      ap (λ b. is_among (cond (not b) (z ∷ others y zs) (others y zs)) n) other ∙ ap (λ b. (z == n) || b) (among_others y n zs ne)
]

turned : (a b : ℕ) (is : Bool) → (a == b) ≡ is → (b == a) ≡ is
turned a b true e = grind (arith, nat_tests)
turned a b false e = grind (arith, nat_tests)

-- one more at the end
pub once_more : (ns : List ℕ) (n : ℕ) → once (ns ++ n ∷ []) ≡ with_one (once ns) n
once_more [] n = refl
once_more (y ∷ ns) n = ap (λ l. y ∷ others y l) (once_more ns n) ∙ elim (cases_Bool (y == n)) [
  | inl same ↦ here same
  | inr other ↦ behind other
]
  where
    start : List ℕ
    start = y ∷ others y (once ns)

    nothing_new : (y == n) ≡ true → (b : Bool) → others y (cond b (once ns) (once ns ++ n ∷ [])) ≡ others y (once ns)
    nothing_new same true = refl
    nothing_new same false =
        filter-append (λ m. not (m == y)) (once ns) (n ∷ []) ∙ ap (λ b. others y (once ns) ++ cond (not b) (n ∷ []) []) (turned y n true same) ∙ append-nil (others y (once ns))

    here : (y == n) ≡ true → y ∷ others y (with_one (once ns) n) ≡ with_one (y ∷ others y (once ns)) n
    here same =
        ap (λ l. y ∷ l) (nothing_new same (is_among (once ns) n)) ∙ sym (ap (λ b. cond (b || is_among (others y (once ns)) n) start (start ++ n ∷ [])) same)

    added : (y == n) ≡ false → (b : Bool) → y ∷ others y (cond b (once ns) (once ns ++ n ∷ [])) ≡ cond b start (start ++ n ∷ [])
    added other true = refl
    added other false =
        ap (λ l. y ∷ l) (filter-append (λ m. not (m == y)) (once ns) (n ∷ []) ∙ ap (λ b. others y (once ns) ++ cond (not b) (n ∷ []) []) (turned y n false other))

    behind : (y == n) ≡ false → y ∷ others y (with_one (once ns) n) ≡ with_one (y ∷ others y (once ns)) n
    behind other =
        added other (is_among (once ns) n) ∙ ap (λ b. cond b start (start ++ n ∷ [])) (sym (among_others y n (once ns) other))
        ∙ sym (ap (λ b. cond (b || is_among (others y (once ns)) n) start (start ++ n ∷ [])) other)

pub once_all : (before ns : List ℕ) → fold with_one (once before) ns ≡ once (before ++ ns)
once_all before [] = ap once (sym (append-nil before))
once_all before (n ∷ ns) =
    ap (λ l. fold with_one l ns) (sym (once_more before n)) ∙ once_all (before ++ n ∷ []) ns ∙ ap once (append_assoc before (n ∷ []) ns)

pub once_by_one : (ns : List ℕ) → fold with_one [] ns ≡ once ns
once_by_one ns = once_all [] ns

-- what the next item gives, if it gives one, is added
pub added_more : {X : Type 0} (h : X → Option ℕ) (xs : List X) (i : ℕ) (x : X) → i < length xs → x ≡ get_or xs i x → (start before : List ℕ)
    → before ≡ fold with_one start (filter_map h (take i xs)) → option_map_or (with_one before) (h x) before ≡ fold with_one start (filter_map h (take (i + 1) xs))
added_more h xs i x lt is start before so_far =
    ap (λ l. option_map_or (with_one l) (h x) l) so_far ∙ one (h x)
    ∙ sym (fold-append with_one start (filter_map h (take i xs)) (cons_option (h x) []))
    ∙ ap (fold with_one start) (sym (ap (filter_map h) (take_more xs i x lt) ∙ filter_map-append h (take i xs) (get_or xs i x ∷ []) ∙ ap (λ y. filter_map h (take i xs) ++ filter_map h (y ∷ [])) (sym is)))
  where
    so : List ℕ
    so = fold with_one start (filter_map h (take i xs))

    one : (o : Option ℕ) → option_map_or (with_one so) o so ≡ fold with_one so (cons_option o [])
    one None = refl
    one (Some n) = refl

-- those of one list, and then of another
pub once_of_two : {X : Type 0} (h : X → Option ℕ) (xs ys : List X) → fold with_one (fold with_one [] (filter_map h xs)) (filter_map h ys) ≡ once (filter_map h (xs ++ ys))
once_of_two h xs ys =
    sym (fold-append with_one [] (filter_map h xs) (filter_map h ys)) ∙ once_by_one (filter_map h xs ++ filter_map h ys) ∙ ap once (sym (filter_map-append h xs ys))
