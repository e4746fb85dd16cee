-- What a sink has taken, where it tells it.
use Rattle.std.specs.Prelude.{◌≡◌, ℕ, ◌≤◌, List, ◌++◌, length, take, Option, Some, None, [], ◌∷◌}
use Rattle.std.specs.Borrow.{Bor}
use Rattle.std.specs.List.{flat_map}

-- what was taken, with this piece behind it
abbrev pub appended : Option (List ℕ) → List ℕ → Option (List ℕ)
appended None piece = None
appended (Some taken) piece = Some (taken ++ piece)

-- a front of this piece was taken, and no more
pub record AppendsFront (old new : Option (List ℕ)) (piece : List ℕ) : Type 0 where
  pub count : ℕ
  pub within : count ≤ length piece
  pub front : new ≡ appended old (take count piece)

-- a line: texts one behind the other, and a line feed
abbrev pub line_of : List (Bor (List ℕ)) → List ℕ
line_of pieces = flat_map (λ piece. piece.now) pieces ++ 10 ∷ []
