-- The Internet checksum (RFC 1071, 1).
use Rattle.std.specs.Prelude.{ℕ, ◌+◌, ◌-◌, ◌*◌, ◌%◌, ◌==◌, nat_lt, if◌then◌else◌, List, [], ◌∷◌, sum}

-- the 16-bit words, an odd last byte being followed by a zero
unfoldable pub words : List ℕ → List ℕ
words [] = []
words (a ∷ []) = 256 * a ∷ []
words (a ∷ b ∷ more) = (256 * a + b) ∷ words more

-- the one's complement sum of words whose plain sum this is: the number from 1 to 65,535 that is
-- congruent to it modulo 65,535, and 0 only for words that are all 0
unfoldable pub ones_complement : ℕ → ℕ
ones_complement total = if total == 0 then 0 else (total - 1) % 65535 + 1

-- the one's complement of the one's complement sum of the words
unfoldable pub internet_checksum : List ℕ → ℕ
internet_checksum bytes = 65535 - ones_complement (sum (words bytes))

-- two words added with the carry out of the highest bit brought back to the lowest (2, "Deferred carries")
abbrev pub carried : ℕ → ℕ → ℕ
carried a b = if nat_lt 65535 (a + b) then a + b - 65535 else a + b
