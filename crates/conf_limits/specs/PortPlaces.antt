-- The places of ports, by their numbers and their names.
use Rattle.std.specs.Prelude.{ℕ, ◌==◌, ◌&&◌, Bool, List, []}
use Rattle.std.specs.BTreeMap.{BTreeMap, get, get_by_text}
use Rattle.std.specs.List.{list_any, enumerate_from}
use Rattle.std.specs.Option.{option_map_or}
use Rattle.std.specs.Ordering.{nat_cmp}
use Rattle.std.specs.declared.alloc.Global.{Global}
use Rattle.std.specs.declared.string.String.{String}
use Rattle.std.specs.declared.vec.Vec.{Vec}
use Rattle.conf_types.specs.declared.datapath.Port.{Port}

-- of these ports, the first of which has the place `from`, the one with the place passes the test
abbrev pub stands_at : ℕ → List Port → (Port → Bool) → ℕ → Bool
stands_at from ports test at = list_any (λ item. item.0 == at && test item.1) (enumerate_from from ports)

-- the places that a number leads to
abbrev pub at_number : BTreeMap ℕ (Vec ℕ Global) → ℕ → List ℕ
at_number places n = option_map_or (λ at. at.items) (get nat_cmp places n) []

-- the places that a name leads to
abbrev pub at_name : BTreeMap (String Global) (Vec ℕ Global) → List ℕ → List ℕ
at_name places name = option_map_or (λ at. at.items) (get_by_text places name) []
