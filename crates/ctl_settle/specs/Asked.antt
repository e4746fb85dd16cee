-- What the asks of a settling touch: the neighbours whose Ethernet address was known and isn't any more.
use Rattle.std.specs.Prelude.{◌≡◌, ℕ, zero, suc, true, None, Contains, if◌then◌else◌, List, [], ◌∷◌, ◌++◌, length}
use Rattle.std.specs.Option.{option_map, option_map_or}
use Rattle.conf_types.specs.declared.change.Change.{Change}
use Rattle.conf_types.specs.declared.state.NeighRec.{NeighRec}
use Rattle.conf_types.specs.Changes.{mac_of_neighbour}
use Rattle.law_names.specs.Differing.{neighbour}
use Rattle.law_names.specs.Dues.{due}
use Rattle.neighbour_resolve.specs.declared.neighbour.Due.{Due}
use Rattle.neighbour_resolve.specs.Due.{due_said, is_due, is_lost, is_spent}
use Rattle.ctl_world.specs.World.{World}
use Rattle.ctl_settle.specs.Settling.{say_due, take_due}
use Rattle.ctl_settle.specs.Touched.{MayDiffer}

-- the one that is due, where it is lost
abbrev pub lost : World → Due → List Change
lost w d = if is_lost w.moment.0 w.neighbours.neighbours then due d ∷ [] else []

-- of so many at most
abbrev pub asked : (most : ℕ) → World → List Change
asked zero w = []
asked (suc most) w = option_map_or (λ d. lost w d ++ asked most (say_due d (take_due w))) (due_said w.conf w.moment.0 w.neighbours.neighbours) []

abbrev pub all_asked : World → List Change
all_asked w = asked (length w.neighbours.neighbours) w

-- what may differ behind the asks
abbrev pub with_asked : World → MayDiffer → MayDiffer
with_asked w may = option_map (λ changes. changes ++ all_asked w) may

-- a change names a neighbour that is due, was known, and isn't known any more
pub record IsLost (w v : World) (c : Change) : Type 0 where
  pub one : NeighRec
  pub there : Contains w.neighbours.neighbours one
  pub comes : is_due w.moment.0 one ≡ true
  pub spent : is_spent one ≡ true
  pub named : c ≡ neighbour one
  pub gone : mac_of_neighbour v.neighbours.neighbours one.group one.vid one.ip ≡ None
