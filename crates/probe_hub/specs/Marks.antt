-- The ports that a switch last told up, each with a mark: since when nothing speaks against it, and whether it is lost.
use Rattle.std.specs.Prelude.{ℕ, ◌+◌, ◌==◌, ◌&&◌, not, nat_le, Bool, true, false, if◌then◌else◌, List, [], ◌∷◌, ◌++◌, map, filter, Option}
use Rattle.std.specs.List.{find, list_any}
use Rattle.probe_hub.specs.declared.marks.Mark.{Mark}

-- the mark of a port; None where it wasn't last told up
abbrev pub mark_of : List Mark → (port : ℕ) → Option Mark
mark_of marks port = find (λ m. m.no == port) marks

abbrev pub is_lost : List Mark → (port : ℕ) → Bool
is_lost marks port = list_any (λ m. (m.no == port) && m.lost) marks

abbrev pub without : (port : ℕ) → List Mark → List Mark
without port marks = filter (λ m. not (m.no == port)) marks

-- a mark in the place of that of its port
abbrev pub replaced : Mark → List Mark → List Mark
replaced mark marks = map (λ m. if m.no == mark.no then mark else m) marks

-- a port is told up at a moment, or told otherwise
abbrev pub told : (moment port : ℕ) → (up : Bool) → List Mark → List Mark
told moment port true marks = without port marks ++ record { no = port; since = moment; lost = false } ∷ []
told moment port false marks = without port marks

-- a window that began at a moment is over
abbrev pub is_over : (since window moment : ℕ) → Bool
is_over since window moment = nat_le (since + window) moment
