-- The whole name of a file that another one includes.
use Rattle.std.specs.Prelude.{ℕ, ◌==◌, Bool, false, if◌then◌else◌, List, [], ◌∷◌, ◌++◌, Option, Some, None}
use Rattle.std.specs.Path.{rsplit_once}

-- it begins with a slash
abbrev pub begins_with_slash : List ℕ → Bool
begins_with_slash [] = false
begins_with_slash (b ∷ bs) = b == 47

-- a name in the folder of a file, of which this stands before the last slash and behind it
abbrev pub in_folder : Option (List ℕ × List ℕ) → List ℕ → List ℕ
in_folder None written = written
in_folder (Some parts) written = parts.0 ++ 47 ∷ written

-- the name as written in a file, behind the file's folder; one that begins with a slash stands as it is
abbrev pub whole_name : (including written : List ℕ) → List ℕ
whole_name including written = if begins_with_slash written then written else in_folder (rsplit_once 47 including) written
