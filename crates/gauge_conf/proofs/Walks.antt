-- What a walk that looks for the first fault goes by.
use Rattle.std.proofs.Common.{◌≡◌, List, [], ◌∷◌, ◌++◌, refl}
use Rattle.conf_rules.specs.Places.{first}
use Rattle.conf_rules.proofs.First.{first_none, first_some}

pub first_alone : {A : Type 0} (fs : List A) → first (fs ++ []) ≡ first fs
first_alone [] = refl
first_alone (f ∷ fs) = refl

pub ruleset walk_rules = (first_none, first_some, first_alone)
