-- How many interfaces mirror each port, as a map.
use Rattle.std.specs.Prelude.{ℕ, unwrap_or}
use Rattle.std.specs.BTreeMap.{BTreeMap, get}
use Rattle.std.specs.Ordering.{nat_cmp}

-- a number that the map lacks stands for none
abbrev pub times : BTreeMap ℕ ℕ → ℕ → ℕ
times counts n = unwrap_or (get nat_cmp counts n) 0
