-- Addresses as numbers, and how they are written.
use Rattle.std.specs.Prelude.{◌≡◌, ℕ, ◌+◌, ◌*◌, ◌/◌, ◌%◌, ◌^◌, ◌<◌, List, [], ◌∷◌, ◌++◌, length, Bool, IsTrue, ◌==◌, nat_lt, if◌then◌else◌, slice_index, bit_and}
use Rattle.std.specs.List.{AllByRecursion}
use Rattle.std.specs.Char.{digit_value, digit_char, is_ascii_hexdigit}
use Rattle.net_base.specs.declared.address.TheConstants.{GROUP_BIT}
use Rattle.net_base.specs.declared.address.Mac.{Mac}

-- ---- Ethernet addresses as numbers

-- the bytes of an Ethernet address (IEEE 802, 8.1)
pub record IsSixBytes (bytes : List ℕ) : Type 0 where
  pub count : length bytes ≡ 6
  pub each : AllByRecursion (λ byte. byte < 256) bytes

-- an Ethernet address as one number, its first byte the most significant one
abbrev pub mac_value : Mac → ℕ
mac_value m =
    slice_index m.0 0 * 2 ^ 40 + slice_index m.0 1 * 2 ^ 32 + slice_index m.0 2 * 2 ^ 24 + slice_index m.0 3 * 2 ^ 16 + slice_index m.0 4 * 2 ^ 8 + slice_index m.0 5

-- the address in the low 48 bits of a number
abbrev pub mac_of : ℕ → Mac
mac_of v =
    record { 0 = v / 2 ^ 40 % 256 ∷ v / 2 ^ 32 % 256 ∷ v / 2 ^ 24 % 256 ∷ v / 2 ^ 16 % 256 ∷ v / 2 ^ 8 % 256 ∷ v % 256 ∷ [] }

-- the bit of a group address (IEEE 802, 8.2.2)
abbrev pub group_bit : ℕ
group_bit = GROUP_BIT

abbrev pub is_group : Mac → Bool
is_group m = bit_and (mac_value m) group_bit == group_bit

-- ---- how addresses are written

-- the decimal digits of a number below 1000, without leading zeros
abbrev pub decimal : ℕ → List ℕ
decimal n =
    if nat_lt n 10 then (48 + n) ∷ []
    else if nat_lt n 100 then (48 + n / 10) ∷ (48 + n % 10) ∷ []
    else (48 + n / 100) ∷ (48 + n / 10 % 10) ∷ (48 + n % 10) ∷ []

-- an IPv4 address in dotted decimal (RFC 1123, 2.1), its first byte the most significant one
abbrev pub ip4_text : ℕ → List ℕ
ip4_text ip = decimal (ip / 2 ^ 24) ++ 46 ∷ (decimal (ip / 2 ^ 16 % 256) ++ 46 ∷ (decimal (ip / 2 ^ 8 % 256) ++ 46 ∷ decimal (ip % 256)))

-- an address and the length of its prefix (RFC 4632, 3.1)
abbrev pub net4_text : ℕ → ℕ → List ℕ
net4_text ip len = ip4_text ip ++ 47 ∷ decimal len

-- two hexadecimal digits, of either case, and the byte that they spell
pub record IsPair (a b byte : ℕ) : Type 0 where
  pub first : IsTrue (is_ascii_hexdigit a)
  pub second : IsTrue (is_ascii_hexdigit b)
  pub value : byte ≡ 16 * digit_value a + digit_value b

-- a colon and a pair for each byte
abbrev pub SpellsBehind : List ℕ → List ℕ → Type 0
SpellsBehind text [] = text ≡ []
SpellsBehind text (byte ∷ bytes) = (a b : ℕ) × (rest : List ℕ) × (text ≡ 58 ∷ a ∷ b ∷ rest) × IsPair a b byte × SpellsBehind rest bytes

-- six pairs joined by colons (RFC 7042, 2.1, with colons)
abbrev pub SpellsMac : List ℕ → List ℕ → Type 0
SpellsMac text [] = ⊥
SpellsMac text (byte ∷ bytes) = (a b : ℕ) × (rest : List ℕ) × (text ≡ a ∷ b ∷ rest) × IsPair a b byte × SpellsBehind rest bytes × (length bytes ≡ 5)

abbrev pub pair_text : ℕ → List ℕ
pair_text byte = digit_char (byte / 16) ∷ digit_char (byte % 16) ∷ []

abbrev pub behind_text : List ℕ → List ℕ
behind_text [] = []
behind_text (byte ∷ bytes) = 58 ∷ (pair_text byte ++ behind_text bytes)

-- the same in lower case
abbrev pub mac_text : List ℕ → List ℕ
mac_text [] = []
mac_text (byte ∷ bytes) = pair_text byte ++ behind_text bytes
