-- Numbers at the front of bytes.
use Rattle.std.proofs.Common.{◌≡◌, ℕ, ◌+◌, ◌≤◌, List, ◌++◌, length, take, drop, sym, ap, ◌∙◌, arith, length-drop}
use Rattle.std.proofs.lemmas.List.{drop-append-le, length-take-le, take-append-drop, drop-drop}
use Rattle.std.proofs.Math.Seq.{take-append_seam, drop-append_seam}
use Rattle.byteorder.specs.Endian.{big_from}
use Rattle.byteorder.specs.Numbers.{big_from-append}
use Rattle.bgp_messages.specs.Numbers.{number_in}

-- a number reads no byte behind it
pub number_of_front : (at n : ℕ) (xs ys : List ℕ) → at + n ≤ length xs → number_in at n (xs ++ ys) ≡ number_in at n xs
unfolding number_in
number_of_front at n xs ys h =
    ap (big_from 0 n) (drop-append-le at xs ys (omega arith)) ∙ big_from-append n (drop at xs) ys (omega (arith, length-drop at xs))

pub number_of_take : (at n m : ℕ) (xs : List ℕ) → at + n ≤ m → m ≤ length xs → number_in at n (take m xs) ≡ number_in at n xs
number_of_take at n m xs h k =
    sym (number_of_front at n (take m xs) (drop m xs) (omega (arith, length-take-le m xs k))) ∙ ap (number_in at n) (take-append-drop m xs)

-- a number behind others
pub number_behind : (at n m : ℕ) (xs : List ℕ) → number_in at n (drop m xs) ≡ number_in (m + at) n xs
unfolding number_in
number_behind at n m xs = ap (big_from 0 n) (drop-drop at m xs)

-- the same number stands in the same place of two fronts of the same bytes
pub same_number : (at n : ℕ) (f g a b : List ℕ) → at + n ≤ length f → at + n ≤ length g → f ++ a ≡ g ++ b → number_in at n f ≡ number_in at n g
same_number at n f g a b h k e = sym (number_of_front at n f a h) ∙ ap (number_in at n) e ∙ number_of_front at n g b k

-- fronts of one length are the same
pub same_front : (f g a b : List ℕ) → length f ≡ length g → f ++ a ≡ g ++ b → (f ≡ g) × (a ≡ b)
same_front f g a b long e = (
  sym (take-append_seam f a) ∙ ap (take (length f)) e ∙ ap (λ n. take n (g ++ b)) long ∙ take-append_seam g b,
  sym (drop-append_seam f a) ∙ ap (drop (length f)) e ∙ ap (λ n. drop n (g ++ b)) long ∙ drop-append_seam g b,
)
