-- A text whose bytes are escaped is a text.
use Rattle.std.proofs.Common.{◌≡◌, ℕ, zero, suc, ◌≤◌, ◌<◌, Bool, true, false, ◌&&◌, eqb, List, [], ◌∷◌, ◌++◌, length, get_or, codes, cond, refl, sym, ap, ◌∙◌, subst, arith, inl, inr, append_assoc, lit<}
use Rattle.std.specs.Char.{IsScalar}
use Rattle.std.specs.Str.{IsUtf8, IsAscii}
use Rattle.std.proofs.lemmas.Bool.{cases_lt, ne_eqb}
use Rattle.std.proofs.lemmas.List.{append-nil}
use Rattle.std.proofs.lemmas.Str.{IsUtf8-append, IsUtf8-encode, IsUtf8-from_ascii, IsUtf8-nil, encode_ascii, inside_one}
use lib.Utf8.{scalars, encodes, encode}
use Rattle.prom_text.specs.Samples.{escaped, escaped_byte}

escaped-append : (xs ys : List ℕ) → escaped (xs ++ ys) ≡ escaped xs ++ escaped ys
escaped-append [] ys = refl
escaped-append (x ∷ xs) ys = ap (λ l. escaped_byte x ++ l) (escaped-append xs ys) ∙ sym (append_assoc (escaped_byte x) (escaped xs) (escaped ys))

plain_byte : (b : ℕ) → 128 ≤ b → escaped_byte b ≡ b ∷ []
plain_byte b high =
    let x : eqb b 92 ≡ false = ne_eqb b 92 (λ e. omega (arith, e)) in
    let y : eqb b 34 ≡ false = ne_eqb b 34 (λ e. omega (arith, e)) in
    let z : eqb b 10 ≡ false = ne_eqb b 10 (λ e. omega (arith, e)) in
    rw (x, y, z) refl

-- bytes above the ASCII ones stay as they are
plain_bytes : (bs : List ℕ) → ((k : ℕ) → k < length bs → 128 ≤ get_or bs k 0) → escaped bs ≡ bs
plain_bytes [] high = refl
plain_bytes (b ∷ bs) high =
    ap (λ l. l ++ escaped bs) (plain_byte b (high zero (omega arith))) ∙ ap (λ l. b ∷ l) (plain_bytes bs (λ k h. high (suc k) (omega arith)))

high_char : (c : ℕ) → 128 ≤ c → escaped (encode c) ≡ encode c
high_char c high =
    plain_bytes (encode c) (λ k h. elim (cases_lt (get_or (encode c) k 0) 128) [
      | inl low ↦ (let same : c ≡ get_or (encode c) k 0 = inside_one c [] (encode c) k (sym (append-nil (encode c))) h low in absurd (omega arith))
      | inr above ↦ above
    ])

one_ascii : (a : ℕ) → a < 128 → IsUtf8 (a ∷ [])
one_ascii a h = IsUtf8-from_ascii (a ∷ []) each
  where
    each : IsAscii (a ∷ [])
    each zero = h
    each (suc i) = omega arith

low_char : (c : ℕ) → c < 128 → IsUtf8 (escaped_byte c)
low_char c low = by (eqb c 92) (eqb c 34) (eqb c 10)
  where
    pair : (a b : ℕ) → a < 128 → b < 128 → IsUtf8 (a ∷ b ∷ [])
    pair a b h k = IsUtf8-append (a ∷ []) (b ∷ []) (one_ascii a h) (one_ascii b k)

    by : (x y z : Bool) → IsUtf8 (cond x (codes "\\\\") (cond y (codes "\\\"") (cond z (codes "\\n") (c ∷ []))))
    by true y z = pair 92 92 (lit< tt) (lit< tt)
    by false true z = pair 92 34 (lit< tt) (lit< tt)
    by false false true = pair 92 110 (lit< tt) (lit< tt)
    by false false false = one_ascii c low

char_utf8 : (c : ℕ) → IsScalar c → IsUtf8 (escaped (encode c))
char_utf8 c is = elim (cases_lt c 128) [
  | inl low ↦ subst (λ l. IsUtf8 (escaped l)) (sym (encode_ascii c low)) (IsUtf8-append (escaped_byte c) [] (low_char c low) IsUtf8-nil)
  | inr high ↦ subst IsUtf8 (sym (high_char c high)) (IsUtf8-encode c is)
]

both : (a b : Bool) → a && b ≡ true → (a ≡ true) × (b ≡ true)
both true true e = (refl, refl)
both true false e = absurd (cc)
both false b e = absurd (cc)

all_utf8 : (cs : List ℕ) → scalars cs ≡ true → IsUtf8 (escaped (encodes cs))
all_utf8 [] are = IsUtf8-nil
all_utf8 (c ∷ cs) are =
    let each = both _ _ are in
    subst IsUtf8 (sym (escaped-append (encode c) (encodes cs))) (IsUtf8-append (escaped (encode c)) (escaped (encodes cs)) (char_utf8 c each.0) (all_utf8 cs each.1))

pub escaped_utf8 : (value : List ℕ) → IsUtf8 value → IsUtf8 (escaped value)
escaped_utf8 value is = subst (λ l. IsUtf8 (escaped l)) is.1.1 (all_utf8 is.0 is.1.0)
