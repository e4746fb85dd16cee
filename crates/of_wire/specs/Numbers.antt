-- Numbers in a list of bytes, the highest byte first (OpenFlow 1.3, 7: all in network byte order).
use Rattle.std.specs.Prelude.{ℕ, List, drop}
use Rattle.byteorder.specs.Endian.{big_number}

-- the number in so many bytes from a place on
unfoldable pub number_in : (at len : ℕ) → List ℕ → ℕ
number_in at len bytes = big_number len (drop at bytes)
