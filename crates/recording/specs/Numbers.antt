-- Numbers in a list of bytes, the highest byte first.
use Rattle.std.specs.Prelude.{ℕ, List, drop}
use Rattle.byteorder.specs.Endian.{big_number}

-- the number in so many bytes from a place on
unfoldable pub number_at : (len at : ℕ) → List ℕ → ℕ
number_at len at bytes = big_number len (drop at bytes)
