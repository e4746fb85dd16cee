-- Numbers as bytes, the highest byte first (RFC 4271, 4: network byte order).
use Rattle.std.specs.Prelude.{ℕ, ◌==◌, Bool, not, List, drop, bit_and}
use Rattle.byteorder.specs.Endian.{big_number, big_bytes}

-- the number in so many bytes from a place on; bytes that aren't there count as zeros
unfoldable pub number_in : (at len : ℕ) → List ℕ → ℕ
number_in at len bytes = big_number len (drop at bytes)

-- the lowest bytes of a number, so many of them
unfoldable pub number : (len value : ℕ) → List ℕ
number len value = big_bytes len value

-- a byte has this bit
abbrev pub has_bit : (bit byte : ℕ) → Bool
has_bit bit byte = not (bit_and byte bit == 0)
