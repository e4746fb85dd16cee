-- The lines of what is printed, and what of it is UTF-8.
use Rattle.std.proofs.Common.{◌≡◌, ℕ, zero, suc, ◌-◌, ◌/◌, ◌%◌, ◌<◌, ◌≤◌, ◌==◌, nat_lt, Bool, true, false, ◌&&◌, not, List, [], ◌∷◌, ◌++◌, length, get_or, refl, sym, ◌∙◌, ap, arith, subst, ne_eqb, lt-ltb, ltb-true, append_assoc, append-nil, inl, inr, ◌⊎◌}
use Rattle.std.specs.Prelude.{codes, if◌then◌else◌}
use Rattle.std.specs.Char.{is_ascii_control, digit_char}
use Rattle.std.specs.List.{list_all, slice_split}
use Rattle.std.specs.Str.{IsUtf8, IsAscii, all_scalars, encode_utf8_all}
use Rattle.std.specs.Str.Lines.{lines, lines_of_parts, strip_carriage_return}
use Rattle.std.proofs.lemmas.Bool.{and_parts, cases_lt}
use Rattle.std.proofs.lemmas.Bool.Decides.{nat_tests}
use Rattle.std.proofs.lemmas.List.Splits.{length-slice_split}
use Rattle.std.proofs.lemmas.Str.{IsUtf8-nil, IsUtf8-append, IsUtf8-from_ascii, encode_ascii, inside_one}
use Rattle.yaml_subset.specs.Printed.{escaped, all_escaped, is_plain_byte}
use Rattle.yaml_subset.proofs.PrintedPlain.{told_apart}
use lib.Utf8.{encode, scalar}

-- no line feed and no carriage return
abbrev pub is_row_byte : ℕ → Bool
is_row_byte b = not (b == 10) && not (b == 13)

pub all_append : (test : ℕ → Bool) (xs ys : List ℕ) → list_all test xs ≡ true → list_all test ys ≡ true → list_all test (xs ++ ys) ≡ true
all_append test [] ys h k = k
all_append test (x ∷ xs) ys h k = let parts = and_parts (test x) (list_all test xs) h in rw parts.0 (all_append test xs ys parts.1 k)

pub all_weaker : (test other : ℕ → Bool) → ((b : ℕ) → test b ≡ true → other b ≡ true) → (bs : List ℕ) → list_all test bs ≡ true → list_all other bs ≡ true
all_weaker test other f [] h = refl
all_weaker test other f (b ∷ bs) h = let parts = and_parts (test b) (list_all test bs) h in rw (f b parts.0) (all_weaker test other f bs parts.1)

parts_row : (row back : List ℕ) → list_all is_row_byte row ≡ true → slice_split (λ b. b == 10) (row ++ 10 ∷ back) ≡ row ∷ slice_split (λ b. b == 10) back
parts_row [] back h = refl
parts_row (x ∷ xs) back h =
    let parts = and_parts (is_row_byte x) (list_all is_row_byte xs) h in
    rw (parts_row xs back parts.1, told_apart is_row_byte x 10 parts.0 refl) refl

no_return_at : (row : List ℕ) (i : ℕ) → list_all is_row_byte row ≡ true → (get_or row i 0 == 13) ≡ false
no_return_at [] i h = refl
no_return_at (x ∷ xs) zero h = let parts = and_parts (is_row_byte x) (list_all is_row_byte xs) h in told_apart is_row_byte x 13 parts.0 refl
no_return_at (x ∷ xs) (suc i) h = let parts = and_parts (is_row_byte x) (list_all is_row_byte xs) h in no_return_at xs i parts.1

strip_row : (row : List ℕ) → list_all is_row_byte row ≡ true → strip_carriage_return row ≡ row
strip_row row h = rw (no_return_at row (length row - 1) h) refl

first_line : (row : List ℕ) (parts : List (List ℕ)) → 0 < length parts → lines_of_parts (row ∷ parts) ≡ strip_carriage_return row ∷ lines_of_parts parts
first_line row [] h = absurd (omega arith)
first_line row (p ∷ ps) h = refl

-- a row and its line feed are the first line
pub lines_row : (row back : List ℕ) → list_all is_row_byte row ≡ true → lines (row ++ 10 ∷ back) ≡ row ∷ lines back
lines_row row back h =
    ap lines_of_parts (parts_row row back h)
    ∙ first_line row (slice_split (λ b. b == 10) back) (omega (arith, length-slice_split (λ b. b == 10) back))
    ∙ ap (λ l. l ∷ lines back) (strip_row row h)

abbrev pub is_ascii_byte : ℕ → Bool
is_ascii_byte b = nat_lt b 128

ascii_cons : (b : ℕ) (bs : List ℕ) → b < 128 → IsAscii bs → (i : ℕ) → get_or (b ∷ bs) i 0 < 128
ascii_cons b bs l h zero = l
ascii_cons b bs l h (suc i) = h i

pub ascii_from : (bs : List ℕ) → list_all is_ascii_byte bs ≡ true → IsAscii bs
ascii_from [] h = λ i. omega arith
ascii_from (b ∷ bs) h =
    let parts = and_parts (is_ascii_byte b) (list_all is_ascii_byte bs) h in
    ascii_cons b bs (ltb-true b 128 parts.0) (ascii_from bs parts.1)

pub utf8_from : (bs : List ℕ) → list_all is_ascii_byte bs ≡ true → IsUtf8 bs
utf8_from bs h = IsUtf8-from_ascii bs (ascii_from bs h)

pub plain_ascii : (c : ℕ) → is_plain_byte c ≡ true → is_ascii_byte c ≡ true
plain_ascii c h = grind (arith, nat_tests)

pub plain_row : (c : ℕ) → is_plain_byte c ≡ true → is_row_byte c ≡ true
plain_row c h = grind (arith, nat_tests)

-- one of the bytes that an escape is written with, or any other that keeps to its line
digit_tests : (d : ℕ) → d < 16 → (is_ascii_byte (digit_char d) ≡ true) × (is_row_byte (digit_char d) ≡ true)
digit_tests d h = (grind (arith, nat_tests), grind (arith, nat_tests))

record Tested (bs : List ℕ) (b : ℕ) : Type 0 where
  pub rows : list_all is_row_byte bs ≡ true
  pub ascii : b < 128 → list_all is_ascii_byte bs ≡ true

code_tested : (b : ℕ) → b < 128 → Tested (codes "\\u00" ++ digit_char (b / 16) ∷ digit_char (b % 16) ∷ []) b
code_tested b l =
    let high = digit_tests (b / 16) (omega arith) in
    let low = digit_tests (b % 16) (omega arith) in
    record { rows = rw (high.1, low.1) refl; ascii = λ h. rw (high.0, low.0) refl }

control_small : (b : ℕ) → is_ascii_control b ≡ true → b < 128
control_small b h = grind (arith, nat_tests)

by_tests : (b : ℕ) (t1 t2 t3 t4 t5 t6 : Bool) → (b == 92) ≡ t1 → (b == 34) ≡ t2 → (b == 10) ≡ t3 → (b == 9) ≡ t4 → (b == 13) ≡ t5 → is_ascii_control b ≡ t6
    → Tested (if t1 then codes "\\\\" else if t2 then codes "\\\"" else if t3 then codes "\\n" else if t4 then codes "\\t" else if t5 then codes "\\r"
    else if t6 then codes "\\u00" ++ digit_char (b / 16) ∷ digit_char (b % 16) ∷ [] else b ∷ []) b
by_tests b true t2 t3 t4 t5 t6 e1 e2 e3 e4 e5 e6 = record { rows = refl; ascii = λ h. refl }
by_tests b false true t3 t4 t5 t6 e1 e2 e3 e4 e5 e6 = record { rows = refl; ascii = λ h. refl }
by_tests b false false true t4 t5 t6 e1 e2 e3 e4 e5 e6 = record { rows = refl; ascii = λ h. refl }
by_tests b false false false true t5 t6 e1 e2 e3 e4 e5 e6 = record { rows = refl; ascii = λ h. refl }
by_tests b false false false false true t6 e1 e2 e3 e4 e5 e6 = record { rows = refl; ascii = λ h. refl }
by_tests b false false false false false true e1 e2 e3 e4 e5 e6 = code_tested b (control_small b e6)
by_tests b false false false false false false e1 e2 e3 e4 e5 e6 = record { rows = rw (e3, e5) refl; ascii = λ h. rw (lt-ltb b 128 h) refl }

escaped_tested : (b : ℕ) → Tested (escaped b) b
escaped_tested b = by_tests b _ _ _ _ _ _ refl refl refl refl refl refl

pub all_escaped_rows : (bs : List ℕ) → list_all is_row_byte (all_escaped bs) ≡ true
all_escaped_rows [] = refl
all_escaped_rows (b ∷ bs) = all_append is_row_byte (escaped b) (all_escaped bs) (escaped_tested b).rows (all_escaped_rows bs)

all_escaped_append : (xs ys : List ℕ) → all_escaped (xs ++ ys) ≡ all_escaped xs ++ all_escaped ys
all_escaped_append [] ys = refl
all_escaped_append (x ∷ xs) ys = ap (λ l. escaped x ++ l) (all_escaped_append xs ys) ∙ sym (append_assoc (escaped x) (all_escaped xs) (all_escaped ys))

control_low : (b : ℕ) → 128 ≤ b → is_ascii_control b ≡ false
control_low b h = grind (arith, nat_tests)

escaped_high : (b : ℕ) → 128 ≤ b → escaped b ≡ b ∷ []
escaped_high b h = rw (
  ne_eqb b 92 (λ p. absurd (omega arith)),
  ne_eqb b 34 (λ p. absurd (omega arith)),
  ne_eqb b 10 (λ p. absurd (omega arith)),
  ne_eqb b 9 (λ p. absurd (omega arith)),
  ne_eqb b 13 (λ p. absurd (omega arith)),
  control_low b h,
) refl

all_escaped_high : (bs : List ℕ) → ((k : ℕ) → k < length bs → 128 ≤ get_or bs k 0) → all_escaped bs ≡ bs
all_escaped_high [] h = refl
all_escaped_high (b ∷ bs) h = rw (escaped_high b (h 0 (omega arith)), all_escaped_high bs (λ k l. h (suc k) (omega arith))) refl

character_utf8 : (c : ℕ) → scalar c ≡ true → (c < 128) ⊎ (128 ≤ c) → IsUtf8 (all_escaped (encode c))
character_utf8 c s (inl l) = rw (encode_ascii c l) (IsUtf8-append (escaped c) [] (utf8_from (escaped c) ((escaped_tested c).ascii l)) IsUtf8-nil)
character_utf8 c s (inr l) = rw (all_escaped_high (encode c) high) (c ∷ [], (rw s refl, append-nil (encode c)))
  where
    high : (k : ℕ) → k < length (encode c) → 128 ≤ get_or (encode c) k 0
    high k h = at_least (cases_lt (get_or (encode c) k 0) 128)
      where
        at_least : (get_or (encode c) k 0 < 128) ⊎ (128 ≤ get_or (encode c) k 0) → 128 ≤ get_or (encode c) k 0
        at_least (inl small) = let p : c ≡ get_or (encode c) k 0 = inside_one c [] (encode c) k (sym (append-nil (encode c))) h small in absurd (omega arith)
        at_least (inr big) = big

characters_utf8 : (cs : List ℕ) → all_scalars cs ≡ true → IsUtf8 (all_escaped (encode_utf8_all cs))
characters_utf8 [] h = IsUtf8-nil
characters_utf8 (c ∷ cs) h =
    let parts = and_parts (scalar c) (all_scalars cs) h in
    rw (all_escaped_append (encode c) (encode_utf8_all cs))
    (IsUtf8-append (all_escaped (encode c)) (all_escaped (encode_utf8_all cs)) (character_utf8 c parts.0 (cases_lt c 128)) (characters_utf8 cs parts.1))

pub all_escaped_utf8 : (bs : List ℕ) → IsUtf8 bs → IsUtf8 (all_escaped bs)
all_escaped_utf8 bs u = subst (λ (l : List ℕ). IsUtf8 (all_escaped l)) u.1.1 (characters_utf8 u.0 u.1.0)
