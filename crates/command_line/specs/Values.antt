-- What the values of options spell. A colon is 58.
use Rattle.std.specs.Prelude.{◌==◌, ◌&&◌, ℕ, Bool, false, not, if◌then◌else◌, nat_le, List, [], ◌∷◌, Option, Some, None, find}
use Rattle.std.specs.Char.{is_ascii_digit}
use Rattle.std.specs.List.{list_any, list_all, before_first, after_first}
use Rattle.std.specs.Option.{option_map}
use Rattle.std.specs.Str.{bytes_eq}
use Rattle.std.specs.Str.Parse.{digits_value}
use Rattle.net_base.specs.AddressReading.{◌>>=◌, ip4_of}
use Rattle.command_line.specs.declared.parts.CommandOption.{CommandOption}
use Rattle.command_line.specs.declared.values.Listen.{Listen}

-- decimal digits of a number above 0: no sign, and no zero in front
abbrev pub is_numeral : List ℕ → Bool
is_numeral [] = false
is_numeral (d ∷ ds) = not (d == 48) && list_all is_ascii_digit (d ∷ ds)

-- the number that a text spells, where it lies in this range
abbrev pub number_in : (least most : ℕ) → List ℕ → Option ℕ
number_in least most text =
    if is_numeral text && (nat_le least (digits_value 10 text) && nat_le (digits_value 10 text) most) then Some (digits_value 10 text) else None

abbrev pub is_colon : ℕ → Bool
is_colon b = b == 58

-- an IPv4 address in dotted decimal (RFC 1123, 2.1), and a port from 1 to 65,535
abbrev pub address_and_port : (address port : List ℕ) → Option Listen
address_and_port address port = do
  ip ← ip4_of address
  number ← number_in 1 65535 port
  Some (record { ip = record { 0 = ip }; port = number })

-- `A:P`: what stands before the first colon, and behind it
abbrev pub listen_of : List ℕ → Option Listen
listen_of text = if list_any is_colon text then address_and_port (before_first is_colon text) (after_first is_colon text) else None

-- the value of the option of this name, if it stands there
abbrev pub value_of : (name : List ℕ) → List CommandOption → Option (List ℕ)
value_of name options = option_map (λ o. o.value) (find (λ o. bytes_eq o.name name) options)
