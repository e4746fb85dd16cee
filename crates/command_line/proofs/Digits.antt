-- Hexadecimal digits spell the bytes that are read of them, and no others.
use Rattle.std.proofs.Common.{◌≡◌, ◌*◌, ◌+◌, ◌≤◌, ℕ, Bool, true, false, cond, List, [], ◌∷◌, length, Option, Some, None, Result, Ok, Err, refl, sym, ap, ◌∙◌, subst, arith}
use Rattle.std.specs.Prelude.{IsTrue, nat_le}
use Rattle.std.specs.Char.{digit_value, is_ascii_hexdigit}
use Rattle.std.proofs.lemmas.Bool.{leb-true, le-leb}
use Rattle.std.proofs.lemmas.Grind.{common_steps}
use Rattle.std.proofs.lemmas.Option.{none-some, cond_some}
use Rattle.hex.specs.declared.error.FromHexError.{FromHexError}
use Rattle.hex.specs.Hex.{◌>>=◌, hex_digit_value, digit_or_error, value_at, pair_value, decode_pairs, decode_of}
use Rattle.hex.proofs.HexLemmas.{decode_of-even, decode_of-ok}
use Rattle.net_base.specs.Address.{IsPair}
use Rattle.pkt_view.specs.Frame.{has_type}
use Rattle.command_line.specs.Asked.{SpellsBytes, SpellsFrame}
use Rattle.command_line.specs.Frames.{typed, frame_of}

-- ---- results

abbrev value_or : {A : Type 0} → A → Result A FromHexError → A
value_or x (Ok y) = y
value_or x (Err e) = x

same_ok : {A : Type 0} (x y : A) → ◌≡◌ {A = Result A FromHexError} (Ok x) (Ok y) → x ≡ y
same_ok x y e = ap (value_or x) e

bound_ok : {A B : Type 0} (r : Result A FromHexError) (f : A → Result B FromHexError) (y : B) → (r >>= f) ≡ Ok y → (x : A) × (r ≡ Ok x) × (f x ≡ Ok y)
bound_ok (Ok x) f y e = (x, refl, e)
bound_ok (Err cause) f y e = absurd cc

-- what a test lets through
passed : {A : Type 0} (b : Bool) (o : Option A) (x : A) → cond b o None ≡ Some x → (b ≡ true) × (o ≡ Some x)
passed true o x e = (refl, e)
passed false o x e = absurd (none-some x e)

-- ---- one digit

digit_is : (c v : ℕ) → hex_digit_value c ≡ Some v → IsTrue (is_ascii_hexdigit c) × (v ≡ digit_value c)
digit_is c v e = (grind (arith, common_steps), grind (arith, common_steps))

digit_again : (c : ℕ) → IsTrue (is_ascii_hexdigit c) → hex_digit_value c ≡ Some (digit_value c)
digit_again c is = grind (arith, common_steps)

read_digit : (c i v : ℕ) → value_at c i ≡ Ok v → IsTrue (is_ascii_hexdigit c) × (v ≡ digit_value c)
read_digit c i v e = by (hex_digit_value c) refl e
  where
    by : (found : Option ℕ) → hex_digit_value c ≡ found → digit_or_error c i found ≡ Ok v → IsTrue (is_ascii_hexdigit c) × (v ≡ digit_value c)
    by (Some w) is e = digit_is c v (is ∙ ap Some (same_ok w v e))
    by None is e = absurd cc

-- ---- two digits

read_pair : (a b i byte : ℕ) → pair_value a b i ≡ Ok byte → IsPair a b byte
read_pair a b i byte e =
    let high = bound_ok (value_at a i) (λ h. value_at b (i + 1) >>= λ l. Ok (h * 16 + l)) byte e in
    let low = bound_ok (value_at b (i + 1)) (λ l. Ok (high.0 * 16 + l)) byte high.2 in
    let first = read_digit a i high.0 high.1 in
    let second = read_digit b (i + 1) low.0 low.1 in
    let sum = same_ok (high.0 * 16 + low.0) byte low.2 in
    let a_is = first.1 in
    let b_is = second.1 in
    record { first = first.0; second = second.0; value = omega (arith, sum, a_is, b_is) }

pair_again : (a b i byte : ℕ) → IsPair a b byte → pair_value a b i ≡ Ok byte
pair_again a b i byte is =
    let value = is.value in
    let sum : digit_value a * 16 + digit_value b ≡ byte = omega (arith, value) in
    rw (digit_again a is.first, digit_again b is.second) (ap Ok sum)

-- ---- all digits

read_pairs : (i : ℕ) (text bytes : List ℕ) → decode_pairs i text ≡ Ok bytes → SpellsBytes text bytes
unfolding decode_pairs
read_pairs i [] bytes e = subst (SpellsBytes []) (same_ok [] bytes e) refl
read_pairs i (a ∷ []) bytes e = absurd cc
read_pairs i (a ∷ b ∷ rest) bytes e =
    let byte = bound_ok (pair_value a b i) (λ byte. decode_pairs (i + 2) rest >>= λ more. Ok (byte ∷ more)) bytes e in
    let more = bound_ok (decode_pairs (i + 2) rest) (λ more. Ok (byte.0 ∷ more)) bytes byte.2 in
    subst (SpellsBytes (a ∷ b ∷ rest)) (same_ok (byte.0 ∷ more.0) bytes more.2) (a, b, rest, refl, read_pair a b i byte.0 byte.1, read_pairs (i + 2) rest more.0 more.1)

pairs_again : (i : ℕ) (text bytes : List ℕ) → SpellsBytes text bytes → decode_pairs i text ≡ Ok bytes
unfolding decode_pairs
pairs_again i text [] is = rw is refl
pairs_again i text (byte ∷ bytes) (a, b, rest, is, pair, more) = rw (is, pair_again a b i byte pair, pairs_again (i + 2) rest bytes more) refl

is_even : (text bytes : List ℕ) → SpellsBytes text bytes → length text ≡ 2 * length bytes
is_even text [] is = rw is refl
is_even text (byte ∷ bytes) (a, b, rest, is, pair, more) = let len = is_even rest bytes more in ap length is ∙ omega (arith, len)

read_digits : (text bytes : List ℕ) → decode_of text ≡ Ok bytes → SpellsBytes text bytes
read_digits text bytes e = let even = decode_of-ok text bytes e in read_pairs 0 text bytes (sym (decode_of-even text even.0) ∙ e)

digits_again : (text bytes : List ℕ) → SpellsBytes text bytes → decode_of text ≡ Ok bytes
digits_again text bytes is = let len = is_even text bytes is in decode_of-even text (omega (arith, len)) ∙ pairs_again 0 text bytes is

-- ---- a frame

read_frame : (text frame : List ℕ) → length text ≤ 3044 → (read : Result (List ℕ) FromHexError) → decode_of text ≡ read
    → (elim read [ Ok bytes ↦ typed bytes | Err cause ↦ None ]) ≡ Some frame → SpellsFrame text frame
read_frame text frame few (Ok bytes) is e =
    let whole = cond_some (has_type bytes) bytes frame e in
    record { digits = subst (SpellsBytes text) whole.1 (read_digits text bytes is); at_most = few; typed = subst (λ f. IsTrue (has_type f)) whole.1 whole.0 }
read_frame text frame few (Err cause) is e = absurd (none-some frame e)

pub frame_spelled : (text frame : List ℕ) → frame_of text ≡ Some frame → SpellsFrame text frame
frame_spelled text frame e =
    let short = passed (nat_le (length text) 3044) (elim (decode_of text) [ Ok bytes ↦ typed bytes | Err cause ↦ None ]) frame e in
    read_frame text frame (leb-true (length text) 3044 short.0) (decode_of text) refl short.1

pub frame_again : (text frame : List ℕ) → SpellsFrame text frame → frame_of text ≡ Some frame
frame_again text frame is = rw (le-leb (length text) 3044 is.at_most, digits_again text frame is.digits, is.typed) refl
