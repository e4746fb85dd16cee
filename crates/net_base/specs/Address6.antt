-- IPv6 addresses as numbers, and how they are written (RFC 4291, 2.2 and 2.3; RFC 5952, 4).
use Rattle.std.specs.Prelude.{◌≡◌, ℕ, ◌+◌, ◌-◌, ◌*◌, ◌/◌, ◌%◌, ◌^◌, ◌≤◌, ◌⊎◌, List, [], ◌∷◌, ◌++◌, length, take, drop, IsTrue, ◌==◌, nat_lt, nat_le, if◌then◌else◌, replicate}
use Rattle.std.specs.List.{AllByRecursion}
use Rattle.std.specs.Char.{digit_value, digit_char, is_ascii_hexdigit}
use Rattle.net_base.specs.Address.{decimal}

-- ---- groups of 16 bits

-- groups as one number, the first the most significant one
abbrev pub whole : List ℕ → ℕ
whole [] = 0
whole (group ∷ groups) = group * 2 ^ (16 * length groups) + whole groups

-- the eight groups of an address
unfoldable pub groups_of : ℕ → List ℕ
groups_of ip =
    ip / 2 ^ 112 % 2 ^ 16 ∷ ip / 2 ^ 96 % 2 ^ 16 ∷ ip / 2 ^ 80 % 2 ^ 16 ∷ ip / 2 ^ 64 % 2 ^ 16 ∷ ip / 2 ^ 48 % 2 ^ 16 ∷ ip / 2 ^ 32 % 2 ^ 16 ∷ ip / 2 ^ 16 % 2 ^ 16 ∷ ip % 2 ^ 16 ∷ []

-- ---- what spells an address

-- hexadecimal digits as a number, the first the most significant one
abbrev pub hex_value : List ℕ → ℕ
hex_value [] = 0
hex_value (digit ∷ digits) = digit_value digit * 16 ^ length digits + hex_value digits

-- one to four hexadecimal digits of either case
pub record IsGroup (text : List ℕ) (group : ℕ) : Type 0 where
  pub least : 1 ≤ length text
  pub most : length text ≤ 4
  pub each : AllByRecursion (λ digit. IsTrue (is_ascii_hexdigit digit)) text
  pub value : group ≡ hex_value text

-- groups joined by colons, or nothing
abbrev pub SpellsGroups : List ℕ → List ℕ → Type 0
SpellsGroups text [] = text ≡ []
SpellsGroups text (group ∷ []) = IsGroup text group
SpellsGroups text (group ∷ next ∷ groups) = (first rest : List ℕ) × (text ≡ first ++ 58 ∷ rest) × IsGroup first group × SpellsGroups rest (next ∷ groups)

-- eight groups
pub record SpellsEight (text : List ℕ) (ip : ℕ) : Type 0 where
  pub groups : List ℕ
  pub spelled : SpellsGroups text groups
  pub count : length groups ≡ 8
  pub value : ip ≡ whole groups

-- at most seven groups, and two colons in place of those that lack, which are zero
pub record SpellsShort (text : List ℕ) (ip : ℕ) : Type 0 where
  pub front : List ℕ
  pub back : List ℕ
  pub before : List ℕ
  pub behind : List ℕ
  pub row : text ≡ before ++ 58 ∷ 58 ∷ behind
  pub spelled_front : SpellsGroups before front
  pub spelled_back : SpellsGroups behind back
  pub count : length front + length back ≤ 7
  pub value : ip ≡ whole (front ++ replicate (8 - (length front + length back)) 0 ++ back)

-- the text spells the address
abbrev pub SpellsIp6 : List ℕ → ℕ → Type 0
SpellsIp6 text ip = SpellsEight text ip ⊎ SpellsShort text ip

-- an address and the length of its prefix
pub record SpellsNet6 (text : List ℕ) (ip len : ℕ) : Type 0 where
  pub address : List ℕ
  pub row : text ≡ address ++ 47 ∷ decimal len
  pub spelled : SpellsIp6 address ip
  pub most : len ≤ 128

-- ---- the one spelling that is written

-- a group in lower case, without leading zeros
abbrev pub group_text : ℕ → List ℕ
group_text group =
    if nat_lt group 16 then digit_char group ∷ []
    else if nat_lt group 256 then digit_char (group / 16) ∷ digit_char (group % 16) ∷ []
    else if nat_lt group 4096 then digit_char (group / 256) ∷ digit_char (group / 16 % 16) ∷ digit_char (group % 16) ∷ []
    else digit_char (group / 4096) ∷ digit_char (group / 256 % 16) ∷ digit_char (group / 16 % 16) ∷ digit_char (group % 16) ∷ []

abbrev pub groups_text : List ℕ → List ℕ
groups_text [] = []
groups_text (group ∷ []) = group_text group
groups_text (group ∷ next ∷ groups) = group_text group ++ 58 ∷ groups_text (next ∷ groups)

-- how many zeros stand in a row in front
abbrev pub zeros_in_front : List ℕ → ℕ
zeros_in_front [] = 0
zeros_in_front (group ∷ groups) = if group == 0 then zeros_in_front groups + 1 else 0

-- where the longest row of zeros begins, the first of equal ones, and how many they are
abbrev pub longest_zeros : List ℕ → ℕ × ℕ
longest_zeros [] = (0, 0)
longest_zeros (group ∷ groups) =
    let later = longest_zeros groups in
    let here = zeros_in_front (group ∷ groups) in
    if nat_le later.1 here then (0, here) else (later.0 + 1, later.1)

-- two colons in place of a row of zeros, if it has two or more
abbrev pub shortened : ℕ × ℕ → List ℕ → List ℕ
shortened zeros groups =
    if nat_le 2 zeros.1 then groups_text (take zeros.0 groups) ++ 58 ∷ 58 ∷ groups_text (drop (zeros.0 + zeros.1) groups)
    else groups_text groups

-- the longest row of zeros is shortened
abbrev pub ip6_text : ℕ → List ℕ
ip6_text ip = shortened (longest_zeros (groups_of ip)) (groups_of ip)

abbrev pub net6_text : ℕ → ℕ → List ℕ
net6_text ip len = ip6_text ip ++ 47 ∷ decimal len
