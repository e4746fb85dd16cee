-- The bytes of one line, and what may stand between its parts.
use Rattle.std.specs.Prelude.{ℕ, Bool, true, false, ◌||◌, ◌&&◌, not, nat_lt, ◌==◌, if◌then◌else◌, List, [], ◌∷◌, Option, Some, None, Result, Ok, Err}
use Rattle.std.specs.List.{list_all}
use Rattle.yaml_subset.specs.declared.fault.YamlForm.{YamlForm}
use Rattle.yaml_subset.specs.declared.fault.YamlForm.TheVariants.{Anchor, Alias, Tag, BlockScalar, ComplexKey}
use Rattle.yaml_subset.specs.declared.fault.YamlCause.{YamlCause}
use Rattle.yaml_subset.specs.declared.fault.YamlCause.TheVariants.{Tab, LeftOut, Syntax}
use Rattle.yaml_subset.specs.Gives.{◌>>=◌}

-- nothing is left
abbrev pub is_empty : List ℕ → Bool
is_empty [] = true
is_empty (x ∷ xs) = false

-- the bytes begin with this one
abbrev pub begins : ℕ → List ℕ → Bool
begins c [] = false
begins c (x ∷ xs) = x == c

-- what follows the leading spaces
abbrev pub skip : List ℕ → List ℕ
skip [] = []
skip (c ∷ cs) = if c == 32 then skip cs else c ∷ cs

-- a control character: below 0x20, or 0x7f
abbrev pub is_control : ℕ → Bool
is_control c = nat_lt c 32 || c == 127

-- what may stand in quotes and in comments
abbrev pub is_kept : ℕ → Bool
is_kept c = c == 9 || not (is_control c)

-- a space or the line's end
abbrev pub at_gap : List ℕ → Bool
at_gap [] = true
at_gap (c ∷ cs) = c == 32

-- this character, and then a space or the line's end
abbrev pub marks : ℕ → List ℕ → Bool
marks c [] = false
marks c (x ∷ xs) = x == c && at_gap xs

-- The next part of the line, behind spaces; nothing where a comment or the line's end comes.
-- A comment begins with `#` after a space, or where nothing stands before it (fresh).
unfoldable pub next_part : Bool → List ℕ → Result (List ℕ) YamlCause
next_part fresh rest = if begins 35 (skip rest) && (fresh || begins 32 rest)
    then (if list_all is_kept (skip rest) then Ok [] else Err Syntax)
    else Ok (skip rest)

-- what is wrong with a character that stands where none may
abbrev pub stray : List ℕ → YamlCause
stray rest = if begins 9 rest then Tab else Syntax

-- nothing may follow but spaces and a comment
unfoldable pub line_end : List ℕ → Result (Unit {0}) YamlCause
line_end rest = do
  next ← next_part false rest
  if is_empty next then Ok tt else Err (stray next)

-- the form that is left out and begins with this character
abbrev pub left_out : List ℕ → Option YamlForm
left_out [] = None
left_out (c ∷ cs) = if c == 38 then Some Anchor
    else if c == 42 then Some Alias
    else if c == 33 then Some Tag
    else if c == 124 || c == 62 then Some BlockScalar
    else if c == 63 && at_gap cs then Some ComplexKey
    else None

abbrev pub form_or : YamlCause → Option YamlForm → YamlCause
form_or cause None = cause
form_or cause (Some form) = LeftOut form
