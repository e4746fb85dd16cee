-- What is printed of a text between double quotes is read back.
use Rattle.std.proofs.Common.{◌≡◌, ℕ, ◌+◌, ◌-◌, ◌*◌, ◌/◌, ◌%◌, ◌<◌, ◌≤◌, ◌==◌, Bool, true, false, List, [], ◌∷◌, ◌++◌, Some, Ok, refl, sym, ◌∙◌, ap, arith, append_assoc, append-nil, ne_eqb, eqb-true, lt-ltb, le-ltb, le-leb, inl, inr, ◌⊎◌}
use Rattle.std.specs.Prelude.{codes, if◌then◌else◌}
use Rattle.std.proofs.lemmas.Bool.{cases_lt, lt-leb}
use Rattle.std.specs.Char.{is_ascii_control, digit_char}
use Rattle.std.proofs.lemmas.Bool.Decides.{nat_tests}
use Rattle.yaml_subset.specs.declared.quoted.Escape.TheVariants.{Outside}
use Rattle.yaml_subset.specs.Characters.{is_kept}
use Rattle.yaml_subset.specs.Quoted.{hex_digit, utf8_bytes, double_step, double_from}
use Rattle.yaml_subset.specs.DoubleQuoted.{ShortEscape, backslash, quote, line_feed, tab, carriage_return, short, unicode}
use Rattle.yaml_subset.specs.Printed.{escaped, all_escaped}
use Rattle.yaml_subset.proofs.DoubleQuotes.{escape_reads}

-- two characters that stand for one
read_short : (letter byte : ℕ) → ShortEscape letter byte → (out rest : List ℕ) → double_from Outside out (92 ∷ letter ∷ rest) ≡ double_from Outside (out ++ byte ∷ []) rest
read_short letter byte s out rest = escape_reads (92 ∷ letter ∷ []) (byte ∷ []) (short letter byte s refl refl) out rest

low_digit : (d : ℕ) → d < 10 → digit_char d ≡ 48 + d
low_digit d h = rw (lt-ltb d 10 h) refl

high_digit : (d : ℕ) → 10 ≤ d → digit_char d ≡ 87 + d
high_digit d h = rw (le-ltb d 10 h) refl

pub hex_low : (c : ℕ) → 48 ≤ c → c ≤ 57 → hex_digit c ≡ Some (c - 48)
hex_low c l h = rw (le-leb 48 c l, le-leb c 57 h) refl

hex_high : (c : ℕ) → 97 ≤ c → c ≤ 102 → hex_digit c ≡ Some (c - 87)
hex_high c l h = rw (lt-leb c 57 (omega arith), le-leb 97 c l, le-leb c 102 h, le-leb 48 c (omega arith)) refl

digit_read : (d : ℕ) → d < 16 → hex_digit (digit_char d) ≡ Some d
digit_read d h = by_size (cases_lt d 10)
  where
    by_size : (d < 10) ⊎ (10 ≤ d) → hex_digit (digit_char d) ≡ Some d
    by_size (inl l) = ap hex_digit (low_digit d l) ∙ hex_low (48 + d) (omega arith) (omega arith) ∙ ap Some (omega arith)
    by_size (inr l) = ap hex_digit (high_digit d l) ∙ hex_high (87 + d) (omega arith) (omega arith) ∙ ap Some (omega arith)

utf8_small : (n : ℕ) → n < 128 → utf8_bytes n ≡ n ∷ []
utf8_small n h = rw (lt-ltb n 128 h) refl

read_code : (b : ℕ) (out rest : List ℕ) → b < 128
    → double_from Outside out (92 ∷ 117 ∷ 48 ∷ 48 ∷ digit_char (b / 16) ∷ digit_char (b % 16) ∷ rest) ≡ double_from Outside (out ++ b ∷ []) rest
read_code b out rest h =
    let high = digit_read (b / 16) (omega arith) in
    let low_ = digit_read (b % 16) (omega arith) in
    let same : ((0 * 16 + 0) * 16 + b / 16) * 16 + b % 16 ≡ b = omega arith in
    escape_reads (92 ∷ 117 ∷ 48 ∷ 48 ∷ digit_char (b / 16) ∷ digit_char (b % 16) ∷ []) (b ∷ [])
    (unicode 48 48 (digit_char (b / 16)) (digit_char (b % 16)) 0 0 (b / 16) (b % 16) refl refl high low_ (inl (omega (arith, same, h))) refl (sym (ap utf8_bytes same ∙ utf8_small b h)))
    out rest

read_kept : (b : ℕ) (out rest : List ℕ) → (b == 92) ≡ false → (b == 34) ≡ false → is_kept b ≡ true
    → double_from Outside out (b ∷ rest) ≡ double_from Outside (out ++ b ∷ []) rest
unfolding double_from double_step
read_kept b out rest e f k = rw (f, e, k) refl

control_small : (b : ℕ) → is_ascii_control b ≡ true → b < 128
control_small b h = grind (arith, nat_tests)

kept_unless : (b : ℕ) → is_ascii_control b ≡ false → is_kept b ≡ true
kept_unless b h = grind (arith, nat_tests)

by_tests : (b : ℕ) (out rest : List ℕ) (t1 t2 t3 t4 t5 t6 : Bool) → (b == 92) ≡ t1 → (b == 34) ≡ t2 → (b == 10) ≡ t3 → (b == 9) ≡ t4 → (b == 13) ≡ t5 → is_ascii_control b ≡ t6
    → double_from Outside out ((if t1 then codes "\\\\" else if t2 then codes "\\\"" else if t3 then codes "\\n" else if t4 then codes "\\t" else if t5 then codes "\\r"
    else if t6 then codes "\\u00" ++ digit_char (b / 16) ∷ digit_char (b % 16) ∷ [] else b ∷ []) ++ rest)
    ≡ double_from Outside (out ++ b ∷ []) rest
by_tests b out rest true t2 t3 t4 t5 t6 e1 e2 e3 e4 e5 e6 = let p : b ≡ 92 = eqb-true b 92 e1 in rw p (read_short 92 92 backslash out rest)
by_tests b out rest false true t3 t4 t5 t6 e1 e2 e3 e4 e5 e6 = let p : b ≡ 34 = eqb-true b 34 e2 in rw p (read_short 34 34 quote out rest)
by_tests b out rest false false true t4 t5 t6 e1 e2 e3 e4 e5 e6 = let p : b ≡ 10 = eqb-true b 10 e3 in rw p (read_short 110 10 line_feed out rest)
by_tests b out rest false false false true t5 t6 e1 e2 e3 e4 e5 e6 = let p : b ≡ 9 = eqb-true b 9 e4 in rw p (read_short 116 9 tab out rest)
by_tests b out rest false false false false true t6 e1 e2 e3 e4 e5 e6 = let p : b ≡ 13 = eqb-true b 13 e5 in rw p (read_short 114 13 carriage_return out rest)
by_tests b out rest false false false false false true e1 e2 e3 e4 e5 e6 = read_code b out rest (control_small b e6)
by_tests b out rest false false false false false false e1 e2 e3 e4 e5 e6 = read_kept b out rest e1 e2 (kept_unless b e6)

escaped_read : (b : ℕ) (out rest : List ℕ) → double_from Outside out (escaped b ++ rest) ≡ double_from Outside (out ++ b ∷ []) rest
escaped_read b out rest = by_tests b out rest _ _ _ _ _ _ refl refl refl refl refl refl

-- the bytes between the quotes, and what follows
pub all_escaped_read : (text out after : List ℕ) → double_from Outside out (all_escaped text ++ 34 ∷ after) ≡ Ok (out ++ text, after)
unfolding double_from
all_escaped_read [] out after = ap (λ (o : List ℕ). Ok (o, after)) (sym (append-nil out))
all_escaped_read (b ∷ bs) out after =
    ap (λ l. double_from Outside out l) (append_assoc (escaped b) (all_escaped bs) (34 ∷ after))
    ∙ escaped_read b out (all_escaped bs ++ 34 ∷ after)
    ∙ all_escaped_read bs (out ++ b ∷ []) after
    ∙ ap (λ (o : List ℕ). Ok (o, after)) (append_assoc out (b ∷ []) bs)
