-- Quoted scalars: their bytes, read one by one up to the closing quote.
use Rattle.std.specs.Prelude.{ℕ, Bool, true, false, ◌||◌, ◌&&◌, nat_lt, nat_le, ◌==◌, ◌+◌, ◌-◌, ◌*◌, ◌/◌, ◌%◌, if◌then◌else◌, List, [], ◌∷◌, ◌++◌, Option, Some, None, Result, Ok, Err}
use Rattle.yaml_subset.specs.declared.fault.YamlForm.TheVariants.{LongQuote}
use Rattle.yaml_subset.specs.declared.fault.YamlCause.{YamlCause}
use Rattle.yaml_subset.specs.declared.fault.YamlCause.TheVariants.{LeftOut, Syntax}
use Rattle.yaml_subset.specs.declared.quoted.Escape.{Escape}
use Rattle.yaml_subset.specs.declared.quoted.Escape.TheVariants.{Outside, Begun, Low, Hex}
use Rattle.yaml_subset.specs.Characters.{is_kept}
use Rattle.yaml_subset.specs.Gives.{◌>>=◌}

-- The rest of a single quoted scalar: its bytes behind those of `out`, and what follows the closing quote.
-- Two quotes stand for one; `seen` says that one was just read.
unfoldable pub single_from : Bool → List ℕ → List ℕ → Result (List ℕ × List ℕ) YamlCause
single_from true out [] = Ok (out, [])
single_from false out [] = Err (LeftOut LongQuote)
single_from seen out (c ∷ cs) = if c == 39
    then (if seen then single_from false (out ++ 39 ∷ []) cs else single_from true out cs)
    else if seen then Ok (out, c ∷ cs)
    else if is_kept c then single_from false (out ++ c ∷ []) cs
    else Err Syntax

-- the value of a hexadecimal digit
abbrev pub hex_digit : ℕ → Option ℕ
hex_digit c = if nat_le 48 c && nat_le c 57 then Some (c - 48)
    else if nat_le 97 c && nat_le c 102 then Some (c - 87)
    else if nat_le 65 c && nat_le c 70 then Some (c - 55)
    else None

-- the bytes of a character below U+10000 in UTF-8 (RFC 3629, 3)
abbrev pub utf8_bytes : ℕ → List ℕ
utf8_bytes n = if nat_lt n 128 then n ∷ []
    else if nat_lt n 2048 then (n / 64 + 192) ∷ (n % 64 + 128) ∷ []
    else (n / 4096 + 224) ∷ (n / 64 % 64 + 128) ∷ (n % 64 + 128) ∷ []

-- what a backslash and this character stand for, or the escape that they begin
abbrev pub after_backslash : ℕ → Result (Escape × List ℕ) YamlCause
after_backslash c = if c == 92 || c == 34 then Ok (Outside, c ∷ [])
    else if c == 110 then Ok (Outside, 10 ∷ [])
    else if c == 116 then Ok (Outside, 9 ∷ [])
    else if c == 114 then Ok (Outside, 13 ∷ [])
    else if c == 120 then Ok (Low, [])
    else if c == 117 then Ok (Hex 4 0, [])
    else Err Syntax

-- the first digit of `\x`, of a number up to 0x7f
abbrev pub first_of_two : Option ℕ → Result (Escape × List ℕ) YamlCause
first_of_two None = Err Syntax
first_of_two (Some d) = if nat_lt d 8 then Ok (Hex 1 d, []) else Err Syntax

-- A further digit; the second one of `\u` leaves the surrogates out, 0xd800 to 0xdfff.
abbrev pub next_of_hex : ℕ → ℕ → Option ℕ → Result (Escape × List ℕ) YamlCause
next_of_hex left value None = Err Syntax
next_of_hex left value (Some d) = if left == 3 && value == 13 && nat_le 8 d then Err Syntax
    else if nat_le left 1 then Ok (Outside, utf8_bytes ((value * 16 + d) % 65536))
    else Ok (Hex (left - 1) ((value * 16 + d) % 65536), [])

-- what one byte of a double quoted scalar, other than its closing quote, adds
unfoldable pub double_step : Escape → ℕ → Result (Escape × List ℕ) YamlCause
double_step Outside c = if c == 92 then Ok (Begun, []) else if is_kept c then Ok (Outside, c ∷ []) else Err Syntax
double_step Begun c = after_backslash c
double_step Low c = first_of_two (hex_digit c)
double_step (Hex left value) c = next_of_hex left value (hex_digit c)

-- not within an escape
abbrev pub is_outside : Escape → Bool
is_outside Outside = true
is_outside _ = false

-- the rest of a double quoted scalar: its bytes behind those of `out`, and what follows the closing quote
unfoldable pub double_from : Escape → List ℕ → List ℕ → Result (List ℕ × List ℕ) YamlCause
double_from escape out [] = Err (LeftOut LongQuote)
double_from escape out (c ∷ cs) = if c == 34 && is_outside escape then Ok (out, cs)
    else double_step escape c >>= λ s. double_from s.0 (out ++ s.1) cs
