-- Which hosts leave, and where they are looked for.
use Rattle.std.specs.Prelude.{ℕ, ◌==◌, Bool, List, filter, nat_le}
use Rattle.conf_types.specs.declared.state.HostRec.{HostRec}
use Rattle.conf_types.specs.State.{is_host_at}
use Rattle.host_list.specs.declared.order.Leaving.{Leaving}
use Rattle.host_list.specs.declared.order.Leaving.TheVariants.{Port, Datapath}
use Rattle.host_list.specs.Addresses.{Entry}

-- the host is one of those that leave
abbrev pub leaves : Leaving → HostRec → Bool
leaves (Port dp port) host = is_host_at dp port host
leaves (Datapath dp) host = host.dp.0 == dp.0

-- the entries from a place on
abbrev pub from_place : ℕ → List Entry → List Entry
from_place place entries = filter (λ e. nat_le place e.0) entries
