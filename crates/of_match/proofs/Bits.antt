-- Numbers of 128 bits.
use Rattle.std.proofs.Common.{◌≡◌, ℕ, ◌%◌, ◌^◌, ◌<◌}
use Rattle.std.proofs.Math.Nat.{mod-eq_of_lt}

pub all_bits : (value : ℕ) → value < 2 ^ 128 → value % 2 ^ 128 ≡ value
all_bits value fits = mod-eq_of_lt fits
