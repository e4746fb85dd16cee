-- What the values of options spell.
use Rattle.std.proofs.Common.{◌≡◌, ◌==◌, ◌<◌, ◌≤◌, ◌^◌, ℕ, Bool, true, false, List, [], ◌∷◌, length, get_or, Option, Some, None, Err, refl, sym, ap, ◌∙◌, arith, rules}
use Rattle.std.proofs.lemmas.Grind.{common_steps}
use Rattle.std.proofs.lemmas.Str.Parse.{IsNumeralModel, numerals_by_value, parse_digits, without_leading_plus_none}
use Rattle.std.specs.Char.{is_ascii_digit}
use Rattle.std.specs.List.{list_any, list_all, position_or_len}
use Rattle.std.specs.Prelude.{nat_le}
use Rattle.std.specs.Str.Parse.{ParsesUnsigned, digits_value, without_leading_plus}
use Rattle.net_base.specs.Address.{ip4_text}
use Rattle.net_base.specs.AddressReading.{ip4_of}
use Rattle.net_base.proofs.Addresses.{ip4_again, ip4_ok}
use Rattle.command_line.specs.Values.{is_numeral, number_in}

-- ---- numerals

-- a text whose first byte isn't a zero is one where all its bytes are digits
pub numeral_by : (text digits : List ℕ) (all : Bool) → digits ≡ text → 1 ≤ length digits → (get_or digits 0 0 ≡ 48 → ⊥) → all ≡ list_all is_ascii_digit digits → all ≡ is_numeral text
numeral_by text [] all same some other is = absurd (omega arith)
numeral_by text (d ∷ ds) all same some other is =
    let differs : (d == 48) ≡ false = grind (arith, common_steps) in
    let whole : is_numeral (d ∷ ds) ≡ list_all is_ascii_digit (d ∷ ds) = rw differs refl in
    is ∙ sym whole ∙ ap is_numeral same

-- it has no sign
pub plain_text : (text : List ℕ) → is_numeral text ≡ true → without_leading_plus text ≡ text
plain_text [] is = absurd cc
plain_text (d ∷ ds) is = without_leading_plus_none (d ∷ ds) (λ plus. let no : false ≡ true = rw plus at is in absurd cc)

pub all_digits : (text : List ℕ) → is_numeral text ≡ true → list_all is_ascii_digit text ≡ true
all_digits [] is = absurd cc
all_digits (d ∷ ds) is = grind (arith, common_steps)

pub is_there : (text : List ℕ) → is_numeral text ≡ true → 0 < length text
is_there [] is = absurd cc
is_there (d ∷ ds) is = omega arith

pub own : IsNumeralModel (λ ds. list_all is_ascii_digit ds ≡ true) (digits_value 10)
own = numerals_by_value (λ ds. list_all is_ascii_digit ds ≡ true) (search rules)

-- digits that aren't read spell a number that passes 64 bits
pub too_great : (text : List ℕ) (least most : ℕ) → ParsesUnsigned {E = Unit {0}} 64 10 text (Err tt) → is_numeral text ≡ true → most < 2 ^ 64 → None ≡ number_in least most text
too_great text least most read is small = by (nat_le (digits_value 10 text) most) refl
  where
    unread : (0 < length text) × (digits_value 10 text < 2 ^ 64) → ⊥
    unread = parse_digits own {E = Unit {0}} 64 text (Err tt) read (all_digits text is)

    by : (below : Bool) → nat_le (digits_value 10 text) most ≡ below → None ≡ number_in least most text
    by true le = let below : digits_value 10 text ≤ most = grind (arith, common_steps, le) in absurd (unread (is_there text is, omega (arith, below, small)))
    by false le = grind (arith, common_steps, is, le)

-- ---- addresses

pub ip4_found : (text : List ℕ) (n : ℕ) → n < 2 ^ 32 → text ≡ ip4_text n → Some n ≡ ip4_of text
ip4_found text n small e = sym (ap ip4_of e ∙ ip4_again n small)

pub ip4_not : (text : List ℕ) → ((ip : ℕ) → ip < 2 ^ 32 → text ≡ ip4_text ip → ⊥) → None ≡ ip4_of text
ip4_not text h = by (ip4_of text) refl
  where
    by : (read : Option ℕ) → ip4_of text ≡ read → None ≡ ip4_of text
    by None e = sym e
    by (Some n) e = let ok = ip4_ok text n e in absurd (h n ok.1 ok.0)

-- ---- marks

-- where no byte is the mark, none of them is
pub no_mark : (p : ℕ → Bool) (text : List ℕ) → position_or_len p text ≡ length text → list_any p text ≡ false
no_mark p [] e = refl
no_mark p (b ∷ bs) e = grind (arith, common_steps, no_mark p bs)
