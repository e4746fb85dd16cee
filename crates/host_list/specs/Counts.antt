-- How many hosts are counted at a spot.
use Rattle.std.specs.Prelude.{ℕ, ◌==◌, ◌&&◌, Bool, nat_eq, if◌then◌else◌}
use Rattle.std.specs.Option.{option_eq, unwrap_or}
use Rattle.indexmap.specs.IndexMap.{IndexMap, get}
use Rattle.host_list.specs.declared.counts.Spot.{Spot}

abbrev pub is_spot : Spot → Spot → Bool
is_spot a b = a.dp.0 == b.dp.0 && (option_eq nat_eq a.port b.port && option_eq nat_eq a.vid b.vid)

abbrev pub one_at : Spot → Spot → ℕ
one_at a b = if is_spot a b then 1 else 0

abbrev pub at_spot : {S : Type 0} → IndexMap Spot ℕ S → Spot → ℕ
at_spot counts spot = unwrap_or (get is_spot counts spot) 0
