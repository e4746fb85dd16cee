-- Decimal digits are read as the number that they were printed of.
use Rattle.std.proofs.Common.{◌≡◌, ℕ, suc, ◌+◌, ◌*◌, ◌/◌, ◌%◌, ◌<◌, ◌≤◌, ◌==◌, nat_lt, Bool, true, false, cond, ◌&&◌, ◌||◌, not, List, [], ◌∷◌, ◌++◌, length, drop, Option, Some, None, refl, sym, ◌∙◌, ap, arith, subst, eqb-true, eq-eqb, lt-ltb, le-leb, length-append, unwrap_or, pos, negsuc, ◌-ℤ◌}
use Rattle.std.specs.List.{list_all}
use Rattle.std.specs.Fmt.{decimal}
use Rattle.std.proofs.lemmas.Fmt.{decimal_by_steps_wide}
use Rattle.std.proofs.lemmas.Bool.{and_parts}
use Rattle.std.proofs.lemmas.Bool.Decides.{nat_tests}
use Rattle.yaml_subset.specs.declared.numbers.Number.{Number}
use Rattle.yaml_subset.specs.declared.numbers.Number.TheVariants.{Whole}
use Rattle.yaml_subset.specs.Characters.{begins}
use Rattle.yaml_subset.specs.Quoted.{hex_digit}
use Rattle.yaml_subset.specs.Numbers.{greatest, magnitude, signed, number_in, is_digit, is_hex, is_decimal, number_of}
use Rattle.yaml_subset.specs.Numbers.{decimal as decimal_number}
use Rattle.yaml_subset.specs.DigitLaws.{digits_value, IsMagnitude}
use Rattle.yaml_subset.proofs.DigitLaws.{magnitude_is}
use Rattle.yaml_subset.proofs.PrintedQuotes.{hex_low}

-- the digits of a number
pub record Digits (n : ℕ) (ds : List ℕ) : Type 0 where
  pub value : digits_value 10 0 ds ≡ n
  pub digits : list_all is_digit ds ≡ true
  pub some : 0 < length ds
  pub first : begins 48 ds ≡ true → (n ≡ 0) × (length ds ≡ 1)

value_push : (ds : List ℕ) (base m d : ℕ) → digits_value base m (ds ++ d ∷ []) ≡ digits_value base m ds * base + unwrap_or (hex_digit d) 0
unfolding digits_value
value_push [] base m d = refl
value_push (e ∷ ds) base m d = value_push ds base (m * base + unwrap_or (hex_digit e) 0) d

all_push : (test : ℕ → Bool) (ds : List ℕ) (d : ℕ) → list_all test ds ≡ true → test d ≡ true → list_all test (ds ++ d ∷ []) ≡ true
all_push test [] d h t = rw t refl
all_push test (e ∷ ds) d h t = let parts = and_parts (test e) (list_all test ds) h in rw parts.0 (all_push test ds d parts.1 t)

digit_found : (n : ℕ) → n < 10 → unwrap_or (hex_digit (48 + n)) 0 ≡ n
digit_found n h = rw (hex_low (48 + n) (omega arith) (omega arith)) (omega arith)

digit_is : (n : ℕ) → n < 10 → is_digit (48 + n) ≡ true
digit_is n h = rw (le-leb 48 (48 + n) (omega arith), le-leb (48 + n) 57 (omega arith)) refl

one_digit : (n : ℕ) → n < 10 → Digits n ((48 + n) ∷ [])
unfolding digits_value
one_digit n h = record {
  value = omega (arith, digit_found n h);
  digits = rw (digit_is n h) refl;
  some = omega arith;
  first = λ e. let p : 48 + n ≡ 48 = eqb-true _ _ e in (omega arith, refl);
}

begins_push : (k : ℕ) (ds : List ℕ) (d : ℕ) → 0 < length ds → begins k (ds ++ d ∷ []) ≡ begins k ds
begins_push k [] d h = absurd (omega arith)
begins_push k (e ∷ ds) d h = refl

more_digits : (n : ℕ) (ds : List ℕ) → 10 ≤ n → Digits (n / 10) ds → Digits n (ds ++ ((48 + n % 10) ∷ []))
more_digits n ds h d = record {
  value = omega (arith, value_push ds 10 0 (48 + n % 10), d.value, digit_found (n % 10) (omega arith));
  digits = all_push is_digit ds (48 + n % 10) d.digits (digit_is (n % 10) (omega arith));
  some = omega (arith, length-append ds ((48 + n % 10) ∷ []));
  first = λ e. let z = d.first (sym (begins_push 48 ds (48 + n % 10) d.some) ∙ e) in let p : n / 10 ≡ 0 = z.0 in absurd (omega arith);
}

pub digits_of : (n : ℕ) → n ≤ greatest → Digits n (decimal n)
digits_of n h = decimal_by_steps_wide Digits one_digit more_digits n (omega arith)

found_is : (found : Option ℕ) (value : ℕ) → IsMagnitude found value → value ≤ greatest → found ≡ Some value
found_is None value m h = let l : greatest < value = m in absurd (omega arith)
found_is (Some k) value m h = ap Some m

magnitude_read : (n : ℕ) (ds : List ℕ) → Digits n ds → n ≤ greatest → magnitude 10 0 ds ≡ Some n
magnitude_read n ds d h = found_is _ n (subst (λ v. IsMagnitude (magnitude 10 0 ds) v) d.value (magnitude_is ds 10 0 (omega arith))) h

number_read : (n : ℕ) (ds : List ℕ) → Digits n ds → n < greatest → number_in false 10 ds ≡ Whole (pos n)
unfolding number_in signed
number_read n ds d h = rw (magnitude_read n ds d (omega arith), lt-ltb n greatest h) refl

pub minus_is : (n : ℕ) → pos 0 -ℤ pos (suc n) ≡ negsuc n
minus_is n = rw (le-leb 1 (suc n) (omega arith)) (ap negsuc (omega arith))

negative_by : (b : Bool) (n : ℕ) → nat_lt (suc n) greatest ≡ b → suc n ≤ greatest → signed true (suc n) ≡ Some (negsuc n)
unfolding signed
negative_by true n e h = rw e (ap Some (minus_is n))
negative_by false n e h =
    let p : suc n ≡ greatest = grind (arith, nat_tests) in
    let q : greatest ≡ suc n = sym p in
    rw (e, eq-eqb (suc n) greatest p) (ap (λ m. Some (pos 0 -ℤ pos m)) q ∙ ap Some (minus_is n))

negative_read : (n : ℕ) (ds : List ℕ) → Digits (suc n) ds → suc n ≤ greatest → number_in true 10 ds ≡ Whole (negsuc n)
unfolding number_in
negative_read n ds d h = rw (magnitude_read (suc n) ds d h, negative_by _ n refl h) refl

decimal_is : (n : ℕ) (ds : List ℕ) → Digits n ds → is_decimal ds ≡ true
decimal_is n [] d = let l : 0 < 0 = d.some in absurd (omega arith)
decimal_is n (c ∷ cs) d = rw d.digits (by_first (c == 48) refl)
  where
    by_first : (b : Bool) → (c == 48) ≡ b → (not b || suc (length cs) == 1) ≡ true
    by_first false e = refl
    by_first true e = eq-eqb _ _ (d.first e).1

no_sign : (c : ℕ) → is_digit c ≡ true → (c == 45) ≡ false
no_sign c h = grind (arith, nat_tests)

no_hex : (c : ℕ) → is_digit c ≡ true → (c == 120) ≡ false
no_hex c h = grind (arith, nat_tests)

no_hex_second : (ds : List ℕ) → list_all is_digit ds ≡ true → begins 120 (drop 1 ds) ≡ false
no_hex_second [] h = refl
no_hex_second (c ∷ []) h = refl
no_hex_second (c ∷ e ∷ ds) h =
    let parts = and_parts (is_digit c) (list_all is_digit (e ∷ ds)) h in
    let more = and_parts (is_digit e) (list_all is_digit ds) parts.1 in no_hex e more.0

pick : (b c : Bool) (x y : Number) → cond (b && false && c) x y ≡ y
pick true c x y = refl
pick false c x y = refl

number_of_digits : (text : List ℕ) → begins 120 (drop 1 text) ≡ false → number_of text ≡ decimal_number text
unfolding number_of
number_of_digits text h = rw h (pick (begins 48 text) (is_hex (drop 2 text)) _ _)

pub positive_number : (n : ℕ) → n < greatest → (ds : List ℕ) → Digits n ds → number_of ds ≡ Whole (pos n)
unfolding decimal_number
positive_number n h [] d = let l : 0 < 0 = d.some in absurd (omega arith)
positive_number n h (c ∷ cs) d =
    let parts = and_parts (is_digit c) (list_all is_digit cs) d.digits in
    number_of_digits (c ∷ cs) (no_hex_second (c ∷ cs) d.digits) ∙ rw (no_sign c parts.0, decimal_is n (c ∷ cs) d) (number_read n (c ∷ cs) d h)

pub negative_number : (n : ℕ) → n < greatest → (ds : List ℕ) → Digits (suc n) ds → number_of (45 ∷ ds) ≡ Whole (negsuc n)
unfolding number_of decimal_number
negative_number n h ds d = rw (decimal_is (suc n) ds d) (negative_read n ds d (omega arith))
