-- How much of a header is read.
use Rattle.std.specs.Prelude.{ℕ, ◌+◌, ◌-◌, ◌^◌, nat_lt, if◌then◌else◌}

-- behind so many records: all of it, or the one byte at which the record with the last number is refused
abbrev pub header_limit : ℕ → ℕ
header_limit count = if nat_lt (count + 1) (2 ^ 64 - 1) then 17 else 1
