-- What is known, whatever was said in the last turn, and what was said in some turns.
use Rattle.std.specs.Prelude.{List, [], ◌∷◌, ◌++◌}
use Rattle.ctl_world.specs.declared.said.Said.{Said}
use Rattle.ctl_world.specs.World.{World}

abbrev pub known_only : World → World
known_only w = record w { said = [] }

-- one turn behind the other
abbrev pub in_a_row : List (List Said) → List Said
in_a_row [] = []
in_a_row (turn ∷ turns) = turn ++ in_a_row turns
