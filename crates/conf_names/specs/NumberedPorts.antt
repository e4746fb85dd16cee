-- Datapaths and ports by numbers: of each number, the first that has it.
use Rattle.std.specs.Prelude.{ℕ, ◌==◌, List, Option, option_and_then}
use Rattle.std.specs.BTreeMap.{BTreeMap, get}
use Rattle.std.specs.List.{find, slice_get}
use Rattle.std.specs.Ordering.{nat_cmp}
use Rattle.conf_types.specs.declared.datapath.Dp.{Dp}
use Rattle.conf_types.specs.declared.datapath.Port.{Port}

-- the port at the place that a number leads to
abbrev pub port_placed : List Port → BTreeMap ℕ ℕ → ℕ → Option Port
port_placed ports places n = option_and_then (slice_get ports) (get nat_cmp places n)

-- the first datapath whose identifier is the number
abbrev pub dp_numbered : List Dp → ℕ → Option Dp
dp_numbered dps n = find (λ d. d.id.0 == n) dps
