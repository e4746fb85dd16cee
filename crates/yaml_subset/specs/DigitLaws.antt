-- What digits stand for, by place value.
use Rattle.std.specs.Prelude.{◌≡◌, ℕ, ◌+◌, ◌*◌, ◌<◌, List, [], ◌∷◌, unwrap_or, Option, MatchOption}
use Rattle.yaml_subset.specs.Quoted.{hex_digit}
use Rattle.yaml_subset.specs.Numbers.{greatest}

-- the number of the digits behind those of m
unfoldable pub digits_value : ℕ → ℕ → List ℕ → ℕ
digits_value base m [] = m
digits_value base m (d ∷ ds) = digits_value base (m * base + unwrap_or (hex_digit d) 0) ds

-- it is the digits' number, or that passes the greatest magnitude of an i128
abbrev pub IsMagnitude : Option ℕ → ℕ → Type 0
IsMagnitude found value = MatchOption found (greatest < value) (λ m. m ≡ value)
