-- A number is put behind all that are less.
use Rattle.std.proofs.Common.{◌≡◌, ℕ, suc, ◌+◌, ◌≤◌, true, false, cond, nat_lt, List, [], ◌∷◌, length, refl, ap, ◌∙◌, arith}
use Rattle.std.specs.List.{insert, prefix_len}
use Rattle.conf_json.specs.Text.{with_number}

pub place_within : (n : ℕ) (ms : List ℕ) → prefix_len (λ m. nat_lt m n) ms ≤ length ms
place_within n [] = omega arith
place_within n (m ∷ ms) =
    elim (nat_lt m n) as (λ b. cond b (1 + prefix_len (λ m. nat_lt m n) ms) 0 ≤ suc (length ms)) [ true ↦ omega (arith, place_within n ms) | false ↦ omega arith ]

insert_later : (n m : ℕ) (ms : List ℕ) (at : ℕ) → insert (m ∷ ms) (1 + at) n ≡ m ∷ insert ms at n
insert_later n m ms at = let e : 1 + at ≡ suc at = omega arith in ap (λ (k : ℕ). insert (m ∷ ms) k n) e

pub put_at_place : (n : ℕ) (ms : List ℕ) → insert ms (prefix_len (λ m. nat_lt m n) ms) n ≡ with_number ms n
unfolding with_number
put_at_place n [] = refl
put_at_place n (m ∷ ms) =
    elim (nat_lt m n) as (λ b. insert (m ∷ ms) (cond b (1 + prefix_len (λ m. nat_lt m n) ms) 0) n ≡ cond b (m ∷ with_number ms n) (n ∷ m ∷ ms)) [
      | true ↦ insert_later n m ms (prefix_len (λ m. nat_lt m n) ms) ∙ ap (λ ns. m ∷ ns) (put_at_place n ms)
      | false ↦ refl
    ]
