-- What a source has left, where it tells it.
use Rattle.std.specs.Prelude.{◌≡◌, List, [], ◌++◌, ℕ, Option, Some, None}

-- what was left while this piece still stood in front of it
abbrev pub prepended : List ℕ → Option (List ℕ) → Option (List ℕ)
prepended piece None = None
prepended piece (Some left) = Some (piece ++ left)

-- nothing is left, as far as the source tells it
abbrev pub IsAtEnd : Option (List ℕ) → Type 0
IsAtEnd None = Unit {0}
IsAtEnd (Some left) = left ≡ []
