-- Reading IPv6 addresses, as functions of the text.
use Rattle.std.specs.Prelude.{ℕ, zero, suc, ◌+◌, ◌-◌, ◌*◌, ◌^◌, List, [], ◌∷◌, length, drop, Bool, false, Option, Some, None, nat_le, ◌==◌, ◌&&◌, if◌then◌else◌}
use Rattle.std.specs.Option.{option_map}
use Rattle.net_base.specs.AddressReading.{◌>>=◌, hex_of, cut_at, number_up_to}
use Rattle.net_base.specs.Address6.{whole}

-- two hexadecimal digits
unfoldable pub hex_pair : ℕ → ℕ → Option ℕ
hex_pair a b = hex_of a >>= λ high. hex_of b >>= λ low. Some (16 * high + low)

-- one to four hexadecimal digits
unfoldable pub group_of : List ℕ → Option ℕ
group_of (a ∷ []) = hex_of a
group_of (a ∷ b ∷ []) = hex_pair a b
group_of (a ∷ b ∷ c ∷ []) = hex_of a >>= λ high. hex_pair b c >>= λ low. Some (256 * high + low)
group_of (a ∷ b ∷ c ∷ d ∷ []) = hex_pair a b >>= λ high. hex_pair c d >>= λ low. Some (256 * high + low)
group_of _ = None

-- a group, and those behind the first colon, if there is one
abbrev pub group_and : (List ℕ → Option (List ℕ)) → List ℕ → Option (List ℕ × List ℕ) → Option (List ℕ)
group_and next text None = group_of text >>= λ group. Some (group ∷ [])
group_and next text (Some cut) = group_of cut.0 >>= λ group. next cut.1 >>= λ groups. Some (group ∷ groups)

-- groups joined by colons, so many at most
unfoldable pub groups_in : ℕ → List ℕ → Option (List ℕ)
groups_in zero text = None
groups_in (suc most) text = group_and (groups_in most) text (cut_at 58 text)

-- the same, or nothing
unfoldable pub side_of : List ℕ → Option (List ℕ)
side_of [] = Some []
side_of (b ∷ text) = groups_in 8 (b ∷ text)

-- two colons begin
abbrev pub is_gap : ℕ → List ℕ → Bool
is_gap b [] = false
is_gap b (next ∷ more) = (b == 58) && (next == 58)

-- the bytes before the first two colons in a row, and those behind them
abbrev pub gap_at : List ℕ → Option (List ℕ × List ℕ)
gap_at [] = None
gap_at (b ∷ bs) = if is_gap b bs then Some ([], drop 1 bs) else gap_at bs >>= λ cut. Some (b ∷ cut.0, cut.1)

-- ---- groups as a number, and how many they are

abbrev pub summed : List ℕ → ℕ × ℕ
summed groups = (whole groups, length groups)

-- a group in front of others
unfoldable pub in_front : ℕ → ℕ × ℕ → ℕ × ℕ
in_front group others = (group * 2 ^ (16 * others.1) + others.0, others.1 + 1)

unfoldable pub sum_in : ℕ → List ℕ → Option (ℕ × ℕ)
sum_in most text = option_map summed (groups_in most text)

unfoldable pub side_sum : List ℕ → Option (ℕ × ℕ)
side_sum text = option_map summed (side_of text)

-- those before the gap at the top of an address, and those behind it at its end
abbrev pub spread : ℕ × ℕ → ℕ × ℕ → Option ℕ
spread front back =
    if nat_le (front.1 + back.1) 7 then Some (front.0 * 2 ^ (16 * (8 - front.1)) + back.0) else None

abbrev pub eight_in : List ℕ → Option ℕ
eight_in text = sum_in 8 text >>= λ groups. if groups.1 == 8 then Some groups.0 else None

-- eight groups, or those of both sides of the gap
abbrev pub ip6_cut : List ℕ → Option (List ℕ × List ℕ) → Option ℕ
ip6_cut text None = eight_in text
ip6_cut text (Some cut) = side_sum cut.0 >>= λ front. side_sum cut.1 >>= λ back. spread front back

unfoldable pub ip6_of : List ℕ → Option ℕ
ip6_of text = ip6_cut text (gap_at text)

unfoldable pub net6_of : List ℕ → Option (ℕ × ℕ)
net6_of text = do
  parts ← cut_at 47 text
  ip ← ip6_of parts.0
  len ← number_up_to 128 parts.1
  Some (ip, len)
