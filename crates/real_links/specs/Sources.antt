-- What may have something to be taken, and whose turn is next.
use Rattle.std.specs.Prelude.{ℕ, Bool, ◌&&◌, nat_le, Option}
use Rattle.std.specs.Option.{option_map}
use Rattle.std.specs.List.{find}
use Rattle.std.specs.Ordering.{nat_cmp}
use Rattle.std.specs.BTreeMap.{BTreeMap, get}
use Rattle.real_links.specs.declared.sources.Sources.{Sources}

-- those that are open, by their numbers, each with whether it is ready
abbrev pub ready_in : Sources → BTreeMap ℕ Bool
ready_in sources = sources.ready

-- whether the one with this number is ready; None where it isn't open
abbrev pub ready_at : Sources → ℕ → Option Bool
ready_at sources number = get nat_cmp sources.ready number

-- the number from which on the next turn is
abbrev pub from_of : Sources → ℕ
from_of sources = sources.from

-- the first that is ready of those with this number or a greater one
abbrev pub first_ready : ℕ → BTreeMap ℕ Bool → Option ℕ
first_ready from ready = option_map (λ it. it.0) (find (λ it. it.1 && nat_le from it.0) ready.entries)
