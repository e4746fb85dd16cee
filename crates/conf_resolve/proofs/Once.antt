-- What adding numbers one at a time leaves, and lists that grow piece by piece.
use Rattle.std.proofs.Common.{◌≡◌, ℕ, suc, ◌+◌, ◌<◌, ◌==◌, length, get_or, drop, true, false, ◌||◌, cond, Option, Some, None, List, [], ◌∷◌, ◌++◌, append_assoc, refl, ap, sym, ◌∙◌, arith}
use Rattle.std.proofs.Math.Bool.{or_comm, or-false}
use Rattle.std.proofs.Math.Seq.{drop-cons}
use Rattle.std.specs.List.{filter_map, cons_option}
use Rattle.std.proofs.lemmas.Grind.{common_steps}
use Rattle.std.proofs.lemmas.List.Folds.{list_any-append}
use Rattle.conf_types.specs.Lists.{is_among}
use Rattle.conf_resolve.specs.Resolved.{to_list, new_ones, once}
use Rattle.conf_resolve.specs.Added.{with_number, with_numbers}

is_among_last : (ns : List ℕ) (m n : ℕ) → is_among (ns ++ m ∷ []) n ≡ (is_among ns n || (m == n))
is_among_last ns m n = list_any-append (λ x. x == n) ns (m ∷ []) ∙ ap (λ b. is_among ns n || b) (or-false (m == n))

with_numbers_from : (seen ns more : List ℕ) → ((n : ℕ) → is_among seen n ≡ is_among ns n) → with_numbers ns more ≡ ns ++ new_ones seen more
with_numbers_from seen ns [] same = grind (arith, common_steps)
with_numbers_from seen ns (m ∷ more) same =
    ap (λ b. with_numbers (cond b ns (ns ++ m ∷ [])) more) (sym (same m))
    ∙ elim (is_among seen m) as (λ b. with_numbers (cond b ns (ns ++ m ∷ [])) more ≡ ns ++ cond b (new_ones seen more) (m ∷ new_ones (m ∷ seen) more)) [
      | true ↦ with_numbers_from seen ns more same
      | false ↦
          with_numbers_from (m ∷ seen) (ns ++ m ∷ []) more (λ n. ap (λ b. (m == n) || b) (same n) ∙ or_comm (m == n) (is_among ns n) ∙ sym (is_among_last ns m n))
          ∙ append_assoc ns (m ∷ []) (new_ones (m ∷ seen) more)
    ]

-- each at its first place
pub with_numbers_is : (more : List ℕ) → with_numbers [] more ≡ once more
with_numbers_is more = with_numbers_from [] [] more (λ n. refl)

-- a loop's step
pub next_number : (all made new xs : List ℕ) (i x : ℕ) → i < length xs → x ≡ get_or xs i x → with_numbers made (drop i xs) ≡ all → new ≡ with_number made x → with_numbers new (drop (i + 1) xs) ≡ all
next_number all made new xs i x lt is so_far added =
    let after : i + 1 ≡ suc i = omega arith in
    ap (λ (n : ℕ). with_numbers new (drop n xs)) after
    ∙ ap (λ (ns : List ℕ). with_numbers ns (drop (suc i) xs)) added
    ∙ ap (λ (n : ℕ). with_numbers (with_number made n) (drop (suc i) xs)) is
    ∙ ap (with_numbers made) (sym (drop-cons xs i x lt))
    ∙ so_far

-- a loop's step where each item gives a piece of the list
pub next_piece : {A B : Type 0} (g : List A → List B) (h : A → List B) → ((x : A) (xs : List A) → g (x ∷ xs) ≡ h x ++ g xs) → (all made new : List B) (xs : List A) (i : ℕ) (x : A) → i < length xs → x ≡ get_or xs i x → made ++ g (drop i xs) ≡ all → new ≡ made ++ h x → new ++ g (drop (i + 1) xs) ≡ all
next_piece g h opens all made new xs i x lt is so_far added =
    let after : i + 1 ≡ suc i = omega arith in
    ap (λ (n : ℕ). new ++ g (drop n xs)) after
    ∙ ap (λ ys. ys ++ g (drop (suc i) xs)) added
    ∙ append_assoc made (h x) (g (drop (suc i) xs))
    ∙ ap (λ ys. made ++ ys) (sym (opens x (drop (suc i) xs)))
    ∙ ap (λ y. made ++ g (y ∷ drop (suc i) xs)) is
    ∙ ap (λ ys. made ++ g ys) (sym (drop-cons xs i x lt))
    ∙ so_far

cons_is : {B : Type 0} (o : Option B) (ys : List B) → cons_option o ys ≡ to_list o ++ ys
cons_is None ys = refl
cons_is (Some y) ys = refl

pub filter_map_opens : {A B : Type 0} (f : A → Option B) (x : A) (xs : List A) → filter_map f (x ∷ xs) ≡ to_list (f x) ++ filter_map f xs
filter_map_opens f x xs = cons_is (f x) (filter_map f xs)
