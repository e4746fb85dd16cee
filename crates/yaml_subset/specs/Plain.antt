-- Plain scalars: where they begin and where they end.
use Rattle.std.specs.Prelude.{ℕ, Bool, ◌||◌, ◌&&◌, ◌==◌, if◌then◌else◌, List, [], ◌∷◌, Option, Some, None, Result, Ok, Err}
use Rattle.yaml_subset.specs.declared.fault.YamlForm.{YamlForm}
use Rattle.yaml_subset.specs.declared.fault.YamlForm.TheVariants.{LongFlow}
use Rattle.yaml_subset.specs.declared.fault.YamlCause.{YamlCause}
use Rattle.yaml_subset.specs.declared.fault.YamlCause.TheVariants.{Tab, LeftOut, Syntax}
use Rattle.yaml_subset.specs.Characters.{is_empty, begins, at_gap, is_control, left_out}

-- one of `, [ ] { }`
abbrev pub is_flow : ℕ → Bool
is_flow c = c == 44 || c == 91 || c == 93 || c == 123 || c == 125

-- one of `# ' " % @` and the backtick
abbrev pub is_reserved : ℕ → Bool
is_reserved c = c == 35 || c == 39 || c == 34 || c == 37 || c == 64 || c == 96

-- what keeps a plain scalar from beginning with c, where cs follows
abbrev pub start_fault : Bool → ℕ → List ℕ → Option YamlForm → Option YamlCause
start_fault flow c cs (Some form) = Some (LeftOut form)
start_fault flow c cs None = if c == 9 then Some Tab
    else if is_control c || is_flow c || is_reserved c then Some Syntax
    else if (c == 45 || c == 58) && at_gap cs then Some (if flow && is_empty cs then LeftOut LongFlow else Syntax)
    else None

abbrev pub plain_fault : Bool → List ℕ → Option YamlCause
plain_fault flow [] = Some Syntax
plain_fault flow (c ∷ cs) = start_fault flow c cs (left_out (c ∷ cs))

-- A plain scalar ends before ` #`, before `:` with a space or the line's end, and in flow also before
-- one of `, [ ] { }`.
abbrev pub plain_ends : Bool → ℕ → List ℕ → Bool
plain_ends flow c cs = c == 32 && begins 35 cs || c == 58 && at_gap cs || flow && is_flow c

-- What follows the last character of a plain scalar that isn't a space, which is `end` so far, and what
-- follows the scalar with its spaces.
unfoldable pub plain_from : Bool → List ℕ → List ℕ → Result (List ℕ × List ℕ) YamlCause
plain_from flow end [] = Ok (end, [])
plain_from flow end (c ∷ cs) = if plain_ends flow c cs then Ok (end, c ∷ cs)
    else if c == 9 then Err Tab
    else if is_control c then Err Syntax
    else plain_from flow (if c == 32 then end else cs) cs
