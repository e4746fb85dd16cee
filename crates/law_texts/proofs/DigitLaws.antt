-- Whole numbers are read as their digits stand for them.
use Rattle.std.proofs.Common.{◌≡◌, ◌⊎◌, inl, inr, ℕ, ◌<◌, ◌≤◌, ◌==◌, nat_lt, Bool, true, false, cond, not, ◌||◌, ◌&&◌, List, [], ◌∷◌, drop, length, Option, Some, None, refl, sym, ◌∙◌, ap, subst, arith, ℤ, pos, ◌-ℤ◌}
use Rattle.std.specs.List.{list_all}
use Rattle.std.specs.Option.{option_and_then}
use Rattle.std.proofs.lemmas.Bool.Decides.{nat_tests}
use Rattle.yaml_subset.specs.declared.numbers.Number.{Number}
use Rattle.yaml_subset.specs.declared.numbers.Number.TheVariants.{Not, Whole}
use Rattle.yaml_subset.specs.Characters.{is_empty, begins}
use Rattle.yaml_subset.specs.DigitLaws.{digits_value, IsMagnitude}
use Rattle.yaml_subset.specs.Numbers.{greatest, magnitude, signed, whole_or, number_in, is_digit, is_hex, is_decimal, number_of}
use Rattle.yaml_subset.specs.Numbers.{decimal as decimal_of}
use Rattle.yaml_subset.proofs.DigitLaws.{magnitude_is}
use Rattle.yaml_subset.proofs.LineValues.{same}
use Rattle.law_texts.specs.Numbers.{HasDigits, hexadecimal, decimal, below_zero, IsI128, with_sign, IsWhole, IsNumber}

-- ---- digits

and_parts : (a b : Bool) → a && b ≡ true → (a ≡ true) × (b ≡ true)
and_parts true b h = (refl, h)
and_parts false b h = absurd cc

no_minus : (c : ℕ) → is_digit c ≡ true → c == 45 ≡ false
no_minus c h = grind (arith, nat_tests)

no_x : (c : ℕ) → is_digit c ≡ true → c == 120 ≡ false
no_x c h = grind (arith, nat_tests)

all_digits : (digits : List ℕ) → is_decimal digits ≡ true → list_all is_digit digits ≡ true
all_digits digits h =
    let a = and_parts (not (is_empty digits) && list_all is_digit digits) (not (begins 48 digits) || length digits == 1) h in
    (and_parts (not (is_empty digits)) (list_all is_digit digits) a.0).1

unsigned : (digits : List ℕ) → is_decimal digits ≡ true → begins 45 digits ≡ false
unsigned [] h = refl
unsigned (c ∷ cs) h = no_minus c (and_parts (is_digit c) (list_all is_digit cs) (all_digits (c ∷ cs) h)).0

no_base : (digits : List ℕ) → list_all is_digit digits ≡ true → begins 120 (drop 1 digits) ≡ false
no_base [] h = refl
no_base (c ∷ []) h = refl
no_base (c ∷ d ∷ ds) h = no_x d (and_parts (is_digit d) (list_all is_digit ds) (and_parts (is_digit c) (list_all is_digit (d ∷ ds)) h).1).0

second : (a b : Bool) (x y : Number) → cond (a && false && b) x y ≡ y
second true b x y = refl
second false b x y = refl

no_hex : (text : List ℕ) → begins 120 (drop 1 text) ≡ false → number_of text ≡ decimal_of text
unfolding number_of
no_hex text h = rw h (second (begins 48 text) (is_hex (drop 2 text)) _ _)

decimal_is : (digits : List ℕ) → is_decimal digits ≡ true → decimal_of digits ≡ number_in false 10 digits
unfolding decimal_of
decimal_is digits h = let s = unsigned digits h in rw (s, h) refl

below_is : (digits : List ℕ) → is_decimal digits ≡ true → decimal_of (45 ∷ digits) ≡ number_in true 10 digits
unfolding decimal_of
below_is digits h = rw h refl

hex_is : (digits : List ℕ) → is_hex digits ≡ true → number_of (48 ∷ 120 ∷ digits) ≡ number_in false 16 digits
unfolding number_of
hex_is digits h = rw h refl

below_no_base : (digits : List ℕ) → list_all is_digit digits ≡ true → begins 120 digits ≡ false
below_no_base [] h = refl
below_no_base (c ∷ cs) h = no_x c (and_parts (is_digit c) (list_all is_digit cs) h).0

number_spelled : (text : List ℕ) (negative : Bool) (base : ℕ) (digits : List ℕ) → HasDigits text negative base digits → (number_of text ≡ number_in negative base digits) × (0 < base)
number_spelled text negative base digits (hexadecimal ds e h) = (ap number_of e ∙ hex_is ds h, omega arith)
number_spelled text negative base digits (decimal ds e h) = (ap number_of e ∙ no_hex ds (no_base ds (all_digits ds h)) ∙ decimal_is ds h, omega arith)
number_spelled text negative base digits (below_zero ds e h) = (ap number_of e ∙ no_hex (45 ∷ ds) (below_no_base ds (all_digits ds h)) ∙ below_is ds h, omega arith)

-- ---- texts that are no numbers

at_character : (c : ℕ) (rest : List ℕ) → begins c rest ≡ true → rest ≡ c ∷ drop 1 rest
at_character c [] h = absurd cc
at_character c (x ∷ xs) h = ap (λ (y : ℕ). y ∷ xs) (same x c h)

at_base : (text : List ℕ) → begins 48 text ≡ true → begins 120 (drop 1 text) ≡ true → text ≡ 48 ∷ 120 ∷ drop 2 text
at_base [] h k = absurd cc
at_base (c ∷ []) h k = absurd cc
at_base (c ∷ d ∷ ds) h k = ap (λ (y : ℕ). y ∷ d ∷ ds) (same c 48 h) ∙ ap (λ (y : ℕ). 48 ∷ y ∷ ds) (same d 120 k)

hex_number : (text : List ℕ) → begins 48 text && begins 120 (drop 1 text) && is_hex (drop 2 text) ≡ true → IsNumber text
hex_number text h =
    let a = and_parts (begins 48 text && begins 120 (drop 1 text)) (is_hex (drop 2 text)) h in
    let b = and_parts (begins 48 text) (begins 120 (drop 1 text)) a.0 in
    record { negative = false; base = 16; digits = drop 2 text; spelled = hexadecimal (drop 2 text) (at_base text b.0 b.1) a.1 }

pub number_or_not : (text : List ℕ) → IsNumber text ⊎ (number_of text ≡ Not)
unfolding number_of decimal_of
number_or_not text = by_base (begins 48 text && begins 120 (drop 1 text) && is_hex (drop 2 text)) refl
  where
    by_below : begins 45 text ≡ true → (b : Bool) → is_decimal (drop 1 text) ≡ b → IsNumber text ⊎ (cond b (number_in true 10 (drop 1 text)) Not ≡ Not)
    by_below e true h = inl (record { negative = true; base = 10; digits = drop 1 text; spelled = below_zero (drop 1 text) (at_character 45 text e) h })
    by_below e false h = inr refl

    by_decimal : (b : Bool) → is_decimal text ≡ b → IsNumber text ⊎ (cond b (number_in false 10 text) Not ≡ Not)
    by_decimal true h = inl (record { negative = false; base = 10; digits = text; spelled = decimal text refl h })
    by_decimal false h = inr refl

    by_sign : (s : Bool) → begins 45 text ≡ s → IsNumber text ⊎ (cond (is_decimal (cond s (drop 1 text) text)) (number_in s 10 (cond s (drop 1 text) text)) Not ≡ Not)
    by_sign true e = by_below e (is_decimal (drop 1 text)) refl
    by_sign false e = by_decimal (is_decimal text) refl

    by_base : (b : Bool) → begins 48 text && begins 120 (drop 1 text) && is_hex (drop 2 text) ≡ b → IsNumber text ⊎ (cond b (number_in false 16 (drop 2 text)) (decimal_of text) ≡ Not)
    by_base true e = inl (hex_number text e)
    by_base false e = by_sign (begins 45 text) refl

-- ---- numbers

abbrev given : ℤ → Option ℤ
given n = Some n

signed_is : (negative : Bool) (m : ℕ) → IsI128 negative m → signed negative m ≡ Some (with_sign negative m)
unfolding signed
signed_is false m h = let t : nat_lt m greatest ≡ true = grind (arith, nat_tests) in rw t refl
signed_is true m h = by_test (nat_lt m greatest) (m == greatest) refl refl
  where
    by_test : (l e : Bool) → nat_lt m greatest ≡ l → m == greatest ≡ e → cond l (Some (pos 0 -ℤ pos m)) (cond e (Some (pos 0 -ℤ pos greatest)) None) ≡ Some (pos 0 -ℤ pos m)
    by_test true e p q = refl
    by_test false true p q = ap (λ (n : ℕ). Some (pos 0 -ℤ pos n)) (sym (same m greatest q))
    by_test false false p q = absurd (let k : greatest ≤ m = grind (arith, nat_tests) in let t : m == greatest ≡ true = grind (arith, nat_tests) in cc)

signed_within : (negative : Bool) (m : ℕ) (n : ℤ) → signed negative m ≡ Some n → IsI128 negative m × (n ≡ with_sign negative m)
unfolding signed
signed_within false m n h = by_test (nat_lt m greatest) refl h
  where
    by_test : (l : Bool) → nat_lt m greatest ≡ l → cond l (Some (pos m)) None ≡ Some n → (m < greatest) × (n ≡ pos m)
    by_test true p h = (grind (arith, nat_tests), cc)
    by_test false p h = absurd cc
signed_within true m n h = by_test (nat_lt m greatest) (m == greatest) refl refl h
  where
    by_test : (l e : Bool) → nat_lt m greatest ≡ l → m == greatest ≡ e → cond l (Some (pos 0 -ℤ pos m)) (cond e (Some (pos 0 -ℤ pos greatest)) None) ≡ Some n → (m ≤ greatest) × (n ≡ pos 0 -ℤ pos m)
    by_test true e p q h = (grind (arith, nat_tests), cc)
    by_test false true p q h = let s : m ≡ greatest = same m greatest q in (omega arith, let k : pos 0 -ℤ pos greatest ≡ n = cc in sym k ∙ ap (λ (i : ℕ). pos 0 -ℤ pos i) (sym s))
    by_test false false p q h = absurd cc

number_is : (negative : Bool) (base : ℕ) (digits : List ℕ) → 0 < base → IsI128 negative (digits_value base 0 digits) → number_in negative base digits ≡ Whole (with_sign negative (digits_value base 0 digits))
unfolding number_in
number_is negative base digits l w = by_found (magnitude base 0 digits) (magnitude_is digits base 0 l)
  where
    beyond : (b : Bool) → IsI128 b (digits_value base 0 digits) → greatest < digits_value base 0 digits → ⊥
    beyond true w h = omega arith
    beyond false w h = omega arith

    by_found : (found : Option ℕ) → IsMagnitude found (digits_value base 0 digits) → whole_or (option_and_then (λ m. signed negative m) found) ≡ Whole (with_sign negative (digits_value base 0 digits))
    by_found None h = absurd (beyond negative w h)
    by_found (Some m) h = ap (λ i. whole_or (signed negative i)) h ∙ ap whole_or (signed_is negative (digits_value base 0 digits) w)

number_within : (negative : Bool) (base : ℕ) (digits : List ℕ) (n : ℤ) → 0 < base → number_in negative base digits ≡ Whole n
    → IsI128 negative (digits_value base 0 digits) × (n ≡ with_sign negative (digits_value base 0 digits))
unfolding number_in
number_within negative base digits n l e = by_found (magnitude base 0 digits) (magnitude_is digits base 0 l) e
  where
    by_signed : (m : ℕ) → m ≡ digits_value base 0 digits → (r : Option ℤ) → signed negative m ≡ r → whole_or r ≡ Whole n → IsI128 negative (digits_value base 0 digits) × (n ≡ with_sign negative (digits_value base 0 digits))
    by_signed m h (Some k) s e = let same_n : k ≡ n = cc in subst (λ i. IsI128 negative i × (n ≡ with_sign negative i)) h (signed_within negative m n (s ∙ ap given same_n))
    by_signed m h None s e = absurd cc

    by_found : (found : Option ℕ) → IsMagnitude found (digits_value base 0 digits) → whole_or (option_and_then (λ m. signed negative m) found) ≡ Whole n
        → IsI128 negative (digits_value base 0 digits) × (n ≡ with_sign negative (digits_value base 0 digits))
    by_found None h e = absurd cc
    by_found (Some m) h e = by_signed m h (signed negative m) refl e

never_not : (r : Option ℤ) → whole_or r ≡ Not → ⊥
never_not None h = cc
never_not (Some n) h = cc

never_in : (negative : Bool) (base : ℕ) (digits : List ℕ) → number_in negative base digits ≡ Not → ⊥
unfolding number_in
never_in negative base digits h = never_not _ h

-- ---- what is read

never_whole : (text : List ℕ) (n : ℤ) → number_of text ≡ Not → number_of text ≡ Whole n → ⊥
never_whole text n h k = cc

pub whole_found : (text : List ℕ) (n : ℤ) → number_of text ≡ Whole n → IsWhole text n
whole_found text n h = by_either (number_or_not text)
  where
    by_either : IsNumber text ⊎ (number_of text ≡ Not) → IsWhole text n
    by_either (inl w) =
        let s = number_spelled text w.negative w.base w.digits w.spelled in
        let i = number_within w.negative w.base w.digits n s.1 (sym s.0 ∙ h) in
        record { negative = w.negative; base = w.base; digits = w.digits; spelled = w.spelled; within = i.0; value = i.1 }
    by_either (inr e) = absurd (never_whole text n e h)

pub whole_read : (text : List ℕ) (n : ℤ) → IsWhole text n → number_of text ≡ Whole n
whole_read text n w =
    let s = number_spelled text w.negative w.base w.digits w.spelled in
    s.0 ∙ number_is w.negative w.base w.digits s.1 w.within ∙ ap Whole (sym w.value)

pub none_found : (text : List ℕ) → number_of text ≡ Not → IsNumber text → ⊥
none_found text h w = let s = number_spelled text w.negative w.base w.digits w.spelled in never_in w.negative w.base w.digits (sym s.0 ∙ h)

pub none_read : (text : List ℕ) → (IsNumber text → ⊥) → number_of text ≡ Not
none_read text none = by_either (number_or_not text)
  where
    by_either : IsNumber text ⊎ (number_of text ≡ Not) → number_of text ≡ Not
    by_either (inl w) = absurd (none w)
    by_either (inr e) = e
