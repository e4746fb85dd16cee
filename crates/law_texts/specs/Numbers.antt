-- Which texts are whole numbers, apart from how they are read.
use Rattle.std.specs.Prelude.{◌≡◌, ◌⊎◌, ℕ, Bool, true, false, ◌<◌, ◌≤◌, if◌then◌else◌, List, ◌++◌, map, codes, Option, Some, ℤ, pos, ◌-ℤ◌}
use Rattle.yaml_subset.specs.DigitLaws.{digits_value}
use Rattle.yaml_subset.specs.Numbers.{greatest, is_hex, is_decimal}

-- the text of a whole number, with its sign, its base and its digits
pub data HasDigits (text : List ℕ) : (negative : Bool) (base : ℕ) (digits : List ℕ) → Type 0 where
  hexadecimal : (digits : List ℕ) → text ≡ codes "0x" ++ digits → is_hex digits ≡ true → HasDigits text false 16 digits
  decimal : (digits : List ℕ) → text ≡ digits → is_decimal digits ≡ true → HasDigits text false 10 digits
  below_zero : (digits : List ℕ) → text ≡ codes "-" ++ digits → is_decimal digits ≡ true → HasDigits text true 10 digits

-- at least -2^127 and less than 2^127
abbrev pub IsI128 : (negative : Bool) → (magnitude : ℕ) → Type 0
IsI128 false m = m < greatest
IsI128 true m = m ≤ greatest

abbrev pub with_sign : (negative : Bool) → (magnitude : ℕ) → ℤ
with_sign negative m = if negative then pos 0 -ℤ pos m else pos m

-- the number that its digits stand for by their places, which is an i128
pub record IsWhole (text : List ℕ) (n : ℤ) : Type 0 where
  pub negative : Bool
  pub base : ℕ
  pub digits : List ℕ
  pub spelled : HasDigits text negative base digits
  pub within : IsI128 negative (digits_value base 0 digits)
  pub value : n ≡ with_sign negative (digits_value base 0 digits)

-- a whole number, however great
pub record IsNumber (text : List ℕ) : Type 0 where
  pub negative : Bool
  pub base : ℕ
  pub digits : List ℕ
  pub spelled : HasDigits text negative base digits

-- neither one of 0 to 9 nor one of a to f or A to F
abbrev pub IsNoHexDigit : ℕ → Type 0
IsNoHexDigit c = (c < 48) ⊎ (((57 < c) × (c < 65)) ⊎ (((70 < c) × (c < 97)) ⊎ (102 < c)))

abbrev pub known : List ℕ → List (Option ℕ)
known values = map (λ n. Some n) values
