-- Padding that is accepted is zeros, and zeros are accepted.
use Rattle.std.proofs.Common.{◌≡◌, ℕ, zero, suc, ◌-◌, ◌≤◌, min, Bool, true, false, not, cond, eqb, ltb, List, [], ◌∷◌, length, take, drop, replicate, Option, Some, None, Result, Ok, refl, sym, ap, ◌∙◌, arith, inl, inr}
use Rattle.std.specs.List.{position_or_len, slice_range}
use Rattle.std.proofs.lemmas.Bool.{ltb-false, le-ltb, cases_eq, eq-eqb, ne_eqb}
use Rattle.std.proofs.lemmas.List.{length-drop, length-take-le, length-replicate}
use Rattle.of_wire.specs.declared.fault.PartFault.{PartFault}
use Rattle.of_wire.specs.Reading.{padded_to, padding_at, first_nonzero}
use Rattle.of_wire.proofs.Chosen.{passed, pass, one_answer}

abbrev is_some_bit : ℕ → Bool
is_some_bit b = not (eqb b 0)

all_zero : (xs : List ℕ) → length xs ≤ position_or_len is_some_bit xs → xs ≡ replicate (length xs) 0
all_zero [] h = refl
all_zero (x ∷ xs) h = elim (cases_eq x 0) [
  | inl e ↦
      let t : eqb x 0 ≡ true = eq-eqb x 0 e in
      let p : position_or_len is_some_bit (x ∷ xs) ≡ suc (position_or_len is_some_bit xs) = rw t (omega arith) in
      let rest = all_zero xs (omega (arith, p)) in
      λ i. e i ∷ rest i
  | inr ne ↦
      let t : eqb x 0 ≡ false = ne_eqb x 0 ne in
      let p : position_or_len is_some_bit (x ∷ xs) ≡ 0 = rw t refl in
      absurd (omega (arith, p))
]

zeros_pass : (n : ℕ) → position_or_len is_some_bit (replicate n 0) ≡ n
zeros_pass zero = refl
zeros_pass (suc n) = let e = zeros_pass n in omega (arith, e)

none_is : {X : Type 0} (b : Bool) (x : X) → cond b (Some x) None ≡ None → b ≡ false
none_is true x e = absurd (cc)
none_is false x e = refl

first_none : (xs : List ℕ) → first_nonzero xs ≡ None → xs ≡ replicate (length xs) 0
first_none xs e = all_zero xs (ltb-false _ _ (none_is (ltb (position_or_len is_some_bit xs) (length xs)) (position_or_len is_some_bit xs) e))

none_first : (n : ℕ) → first_nonzero (replicate n 0) ≡ None
none_first n =
    let zs : List ℕ = replicate n 0 in
    let t : ltb (position_or_len is_some_bit zs) (length zs) ≡ false = le-ltb _ _ (omega (arith, zeros_pass n, length-replicate {A = ℕ} n 0)) in
    rw t refl

padded_ok : (o : Option ℕ) (past : PartFault) (at from to there n : ℕ) → padded_to o past at from to there ≡ Ok n → (o ≡ None) × (to ≤ there) × (to ≡ n)
padded_ok (Some i) past at from to there n e = absurd (cc)
padded_ok None past at from to there n e =
    let r : Result ℕ PartFault = Ok to in
    let a = passed (ltb there to) past r n e in
    (refl, ltb-false there to a.0, one_answer r to n refl a.1)

pub padding_sound : (past : PartFault) (at from to : ℕ) (bytes : List ℕ) (n : ℕ) → from ≤ to → padding_at past at from to bytes ≡ Ok n
    → (to ≡ n) × (to ≤ length bytes) × (take (to - from) (drop from bytes) ≡ replicate (to - from) 0)
unfolding padding_at
padding_sound past at from to bytes n order e =
    let l = length bytes in
    let a = padded_ok (first_nonzero (slice_range bytes (min from l) (min to l))) past at from to l n e in
    let f : min from l ≡ from = omega arith in
    let t : min to l ≡ to = omega arith in
    let z = first_none (slice_range bytes (min from l) (min to l)) a.0 in
    let s : slice_range bytes (min from l) (min to l) ≡ take (to - from) (drop from bytes) = rw (f, t) refl in
    let len : length (take (to - from) (drop from bytes)) ≡ to - from = length-take-le (to - from) (drop from bytes) (omega (arith, length-drop from bytes)) in
    (a.2, a.1, sym s ∙ z ∙ ap (λ k. replicate k 0) (ap length s ∙ len))

pub padding_complete : (past : PartFault) (at from to : ℕ) (bytes : List ℕ) → from ≤ to → to ≤ length bytes → take (to - from) (drop from bytes) ≡ replicate (to - from) 0
    → padding_at past at from to bytes ≡ Ok to
unfolding padding_at
padding_complete past at from to bytes order fits zs =
    let l = length bytes in
    let f : min from l ≡ from = omega arith in
    let t : min to l ≡ to = omega arith in
    let s : slice_range bytes (min from l) (min to l) ≡ replicate (to - from) 0 = rw (f, t) zs in
    let none : first_nonzero (slice_range bytes (min from l) (min to l)) ≡ None = ap (λ xs. first_nonzero xs) s ∙ none_first (to - from) in
    ap (λ o. padded_to o past at from to l) none ∙ pass (ltb l to) past (Ok to) (le-ltb l to fits)
