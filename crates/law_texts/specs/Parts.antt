-- What stands behind the spaces of a line, apart from how it is read.
use Rattle.std.specs.Prelude.{◌≡◌, ℕ, Bool, true, false, not, ◌||◌, ◌&&◌, ◌==◌, List, [], ◌∷◌, ◌++◌}
use Rattle.std.specs.List.{list_all}
use Rattle.yaml_subset.specs.Characters.{is_empty, begins, is_kept}

abbrev pub are_spaces : List ℕ → Bool
are_spaces bytes = list_all (λ b. b == 32) bytes

-- behind these spaces `#` begins a comment: there are some, or they begin a line (fresh)
abbrev pub may_comment : (fresh : Bool) → (spaces : List ℕ) → Bool
may_comment fresh spaces = fresh || not (is_empty spaces)

-- The part behind spaces, which is nothing at the line's end. Where a comment comes, in which no control character but a tab
-- may stand, it is nothing too.
pub data IsPart (fresh : Bool) (rest part : List ℕ) : Type 0 where
  behind_spaces : (spaces : List ℕ) → rest ≡ spaces ++ part → are_spaces spaces ≡ true → begins 32 part ≡ false
      → begins 35 part && may_comment fresh spaces ≡ false → IsPart fresh rest part
  before_comment : (spaces comment : List ℕ) → rest ≡ spaces ++ 35 ∷ comment → are_spaces spaces ≡ true → may_comment fresh spaces ≡ true
      → list_all is_kept comment ≡ true → part ≡ [] → IsPart fresh rest part
