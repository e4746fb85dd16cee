-- Cold starts that a walk keeps.
use Rattle.std.specs.Prelude.{◌≡◌, ◌==◌, ℕ, Bool, List, length, sum_by, is_some, if◌then◌else◌}
use Rattle.std.specs.List.{find}
use Rattle.net_base.specs.declared.numbers.DpId.{DpId}
use Rattle.conf_types.specs.declared.datapath.Dp.{Dp}
use Rattle.conf_types.specs.Configuration.{Configuration}
use Rattle.conf_types.specs.State.{State}
use Rattle.cold_start.specs.Cold.{cold_at, units_of}
use Rattle.net_walk.specs.declared.kept.Kept.{Kept}

-- the entries are those of its datapath
abbrev pub IsKept : Configuration → State → Kept → Type 0
IsKept conf now kept = kept.tables ≡ cold_at conf now kept.dp

abbrev pub is_of : DpId → Kept → Bool
is_of id kept = kept.dp.0 == id.0

-- the units of all datapaths
abbrev pub all_units : Configuration → State → ℕ
all_units conf now = sum_by (λ d. length (units_of conf now d)) conf.dps

-- the units of a datapath whose cold start isn't kept yet
abbrev pub units_ahead : Configuration → State → List Kept → Dp → ℕ
units_ahead conf now kept d = if is_some (find (is_of d.id) kept) then 0 else length (units_of conf now d)

-- the units of all such datapaths
unfoldable pub units_left : Configuration → State → List Kept → ℕ
units_left conf now kept = sum_by (units_ahead conf now kept) conf.dps
