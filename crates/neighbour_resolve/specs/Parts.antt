-- What is left of neighbours.
use Rattle.std.specs.Prelude.{◌⊎◌, List, [], ◌∷◌}
use Rattle.conf_types.specs.declared.state.NeighRec.{NeighRec}
use Rattle.conf_types.specs.State.{IsSameNeighbour}

-- by their keys they stand there, in the same order
abbrev pub AreSomeOf : List NeighRec → List NeighRec → Type 0
AreSomeOf [] ys = Unit {0}
AreSomeOf (x ∷ xs) [] = ⊥
AreSomeOf (x ∷ xs) (y ∷ ys) = (IsSameNeighbour x y × AreSomeOf xs ys) ⊎ AreSomeOf (x ∷ xs) ys
