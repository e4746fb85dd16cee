-- To which datapaths a walk comes, and where arrivals are.
use Rattle.std.specs.Prelude.{ℕ, zero, suc, ◌==◌, ◌&&◌, Bool, List, [], ◌∷◌}
use Rattle.std.specs.List.{flat_map}
use Rattle.std.specs.Option.{option_map_or}
use Rattle.net_base.specs.declared.numbers.DpId.{DpId}
use Rattle.of_match.specs.Pipeline.{first_run}
use Rattle.of_match.specs.declared.packet.Packet.{Packet}
use Rattle.stack_paths.specs.Chosen.{is_same_dp}
use Rattle.conf_types.specs.Configuration.{Configuration}
use Rattle.conf_types.specs.Links.{links}
use Rattle.conf_types.specs.State.{State}
use Rattle.cold_start.specs.Cold.{cold_at}
use Rattle.net_walk.specs.declared.arrival.Arrival.{Arrival}
use Rattle.net_walk.specs.Arrivals.{far_end}

-- the arrival is at a port of a datapath
abbrev pub arrives_at : DpId → ℕ → Arrival → Bool
arrives_at id port a = is_same_dp id a.dp && a.port == port

-- the datapaths that a walk comes to, in its order, with each as often as it comes there
unfoldable pub visited : Configuration → State → ℕ → DpId → ℕ → Packet → List DpId
visited conf now zero id port p = []
visited conf now (suc k) id port p =
    id ∷ flat_map (λ s. option_map_or (λ far. visited conf now k far.dp far.port s.packet) (far_end (links conf now.ups) id s.port) []) (first_run (cold_at conf now id) port p)
