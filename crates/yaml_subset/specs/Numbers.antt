-- Whole numbers, in decimal or hexadecimal digits.
use Rattle.std.specs.Prelude.{ℕ, Bool, false, ◌||◌, ◌&&◌, not, nat_lt, nat_le, ◌==◌, ◌+◌, ◌*◌, if◌then◌else◌, List, [], ◌∷◌, length, drop, Option, Some, None, is_some, unwrap_or, ℤ, pos, ◌-ℤ◌}
use Rattle.std.specs.List.{list_all}
use Rattle.std.specs.Option.{option_and_then}
use Rattle.yaml_subset.specs.declared.numbers.Number.{Number}
use Rattle.yaml_subset.specs.declared.numbers.Number.TheVariants.{Not, Whole, Wide}
use Rattle.yaml_subset.specs.Characters.{is_empty, begins}
use Rattle.yaml_subset.specs.Quoted.{hex_digit}

-- the greatest magnitude of an i128, that of its least value
abbrev pub greatest : ℕ
greatest = 170141183460469231731687303715884105728

-- one more digit behind m; none where the number passes the greatest magnitude
unfoldable pub grown : ℕ → ℕ → ℕ → Option ℕ
grown base m d = if nat_le (m * base + d) greatest then Some (m * base + d) else None

-- the digits behind m
unfoldable pub magnitude : ℕ → ℕ → List ℕ → Option ℕ
magnitude base m [] = Some m
magnitude base m (d ∷ ds) = option_and_then (λ n. magnitude base n ds) (grown base m (unwrap_or (hex_digit d) 0))

-- the number of this sign and magnitude, if it is an i128
unfoldable pub signed : Bool → ℕ → Option ℤ
signed negative m = if nat_lt m greatest then Some (if negative then pos 0 -ℤ pos m else pos m)
    else if negative && m == greatest then Some (pos 0 -ℤ pos greatest)
    else None

abbrev pub whole_or : Option ℤ → Number
whole_or None = Wide
whole_or (Some n) = Whole n

-- the number of these digits
unfoldable pub number_in : Bool → ℕ → List ℕ → Number
number_in negative base digits = whole_or (option_and_then (λ m. signed negative m) (magnitude base 0 digits))

abbrev pub is_hex_digit : ℕ → Bool
is_hex_digit c = is_some (hex_digit c)

abbrev pub is_digit : ℕ → Bool
is_digit c = nat_le 48 c && nat_le c 57

-- one hexadecimal digit or more
abbrev pub is_hex : List ℕ → Bool
is_hex digits = not (is_empty digits) && list_all is_hex_digit digits

-- `0`, or decimal digits without a leading zero
abbrev pub is_decimal : List ℕ → Bool
is_decimal digits = not (is_empty digits) && list_all is_digit digits && (not (begins 48 digits) || length digits == 1)

-- behind an optional minus sign
unfoldable pub decimal : List ℕ → Number
decimal text = let digits = if begins 45 text then drop 1 text else text in
    if is_decimal digits then number_in (begins 45 text) 10 digits else Not

-- a whole number is a decimal one, or `0x` and hexadecimal digits
unfoldable pub number_of : List ℕ → Number
number_of text = if begins 48 text && begins 120 (drop 1 text) && is_hex (drop 2 text)
    then number_in false 16 (drop 2 text)
    else decimal text
