-- Counts and moments, kept in 64 bits.
use Rattle.std.specs.Prelude.{ℕ, ◌+◌, ◌-◌, ◌^◌, min}

-- a sum that stops at the greatest number
abbrev pub sum_up_to_greatest : ℕ → ℕ → ℕ
sum_up_to_greatest a b = min (a + b) (2 ^ 64 - 1)

-- the next value of a counter, which stays at its last one
abbrev pub counted : ℕ → ℕ
counted count = sum_up_to_greatest count 1
