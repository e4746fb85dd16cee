-- Bytes of which nothing is kept in memory, so that want of memory is no answer to them.
use Rattle.std.specs.Prelude.{◌≢◌, ℕ, ◌<◌, List, length, ◌⊎◌}
use Rattle.of_wire.specs.Numbers.{number_in}

-- no field of a match (7.2.3.1) stands there: the bytes end inside its type and length, the type isn't
-- that of a match of fields, or the length leaves no room for a field's header
abbrev pub HoldsNoField : List ℕ → Type 0
HoldsNoField bytes = (length bytes < 4) ⊎ ((number_in 0 2 bytes ≢ 1) ⊎ (number_in 2 2 bytes < 8))
