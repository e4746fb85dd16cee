-- Counts that never fall, kept in 64 bits.
use Rattle.std.specs.Prelude.{ℕ, ◌+◌, ◌-◌, ◌^◌, ◌≤◌, min}

-- the next value of a counter, which stays at its last one
abbrev pub counted : ℕ → ℕ
counted count = min (count + 1) (2 ^ 64 - 1)

-- A count rose. A counter stays at its last value, so one that stands there counts as risen.
abbrev pub Rose : ℕ → ℕ → Type 0
Rose before now = counted before ≤ now
