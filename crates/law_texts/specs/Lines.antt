-- The lines of a text, apart from how they are read.
use Rattle.std.specs.Prelude.{◌≡◌, ℕ, Bool, true, false, not, ◌==◌, List, [], ◌∷◌, ◌++◌}
use Rattle.std.specs.List.{list_all}
use Rattle.yaml_subset.specs.Characters.{is_empty}

-- no line feed stands in it
abbrev pub is_one_line : List ℕ → Bool
is_one_line bytes = list_all (λ b. not (b == 10)) bytes

-- the last byte is a carriage return
abbrev pub ends_in_return : List ℕ → Bool
ends_in_return [] = false
ends_in_return (b ∷ []) = b == 13
ends_in_return (b ∷ c ∷ more) = ends_in_return (c ∷ more)

-- A line ends with a line feed, before which one carriage return doesn't count. What stands behind the last line feed is a line
-- too, unless nothing does.
pub data HasLines : List ℕ → List (List ℕ) → Type 0 where
  no_line : HasLines [] []
  last_line : (line : List ℕ) → is_one_line line ≡ true → is_empty line ≡ false → HasLines line (line ∷ [])
  line_feed : (text line more : List ℕ) (lines : List (List ℕ)) → text ≡ line ++ 10 ∷ more → is_one_line line ≡ true → ends_in_return line ≡ false
      → HasLines more lines → HasLines text (line ∷ lines)
  return_and_line_feed : (text line more : List ℕ) (lines : List (List ℕ)) → text ≡ (line ++ 13 ∷ []) ++ 10 ∷ more → is_one_line line ≡ true
      → HasLines more lines → HasLines text (line ∷ lines)
