-- What a settling touches: the neighbours that are due. A batch touches nothing.
use Rattle.std.specs.Prelude.{ℕ, zero, suc, List, [], ◌∷◌, length}
use Rattle.std.specs.Option.{option_map_or}
use Rattle.neighbour_resolve.specs.Due.{due_said}
use Rattle.ctl_world.specs.World.{World}
use Rattle.ctl_core.specs.Settlings.{say_due, take_due}
use Rattle.conf_types.specs.declared.change.Change.{Change}
use Rattle.law_names.specs.Dues.{due}

abbrev pub by_due : (most : ℕ) → World → List Change
by_due zero w = []
by_due (suc most) w = option_map_or (λ d. due d ∷ by_due most (say_due d (take_due w))) (due_said w.conf w.moment.0 w.neighbours.neighbours) []

abbrev pub by_settling : World → List Change
by_settling w = by_due (length w.neighbours.neighbours) w
