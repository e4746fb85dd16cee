-- A walk by what the switches hold.
use Rattle.std.specs.Prelude.{ℕ, zero, suc, List, [], unwrap_or}
use Rattle.std.specs.List.{flat_map}
use Rattle.net_base.specs.declared.numbers.DpId.{DpId}
use Rattle.net_base.specs.declared.stack.StackLink.{StackLink}
use Rattle.of_match.specs.declared.entry.Entry.{Entry}
use Rattle.of_match.specs.declared.packet.Packet.{Packet}
use Rattle.of_match.specs.Pipeline.{first_run}
use Rattle.conf_types.specs.Configuration.{Configuration}
use Rattle.net_walk.specs.declared.arrival.Arrival.{Arrival}
use Rattle.net_walk.specs.Arrivals.{going_on}
use Rattle.ctl_world.specs.World.{World}
use Rattle.ctl_core.specs.Story.{tables_of}

-- what a datapath's switch holds once it has done all that was said
abbrev pub held_by : World → DpId → List Entry
held_by w id = unwrap_or (tables_of w id) []

-- the arrivals, where each datapath sends by these entries
unfoldable pub walk_by : (DpId → List Entry) → Configuration → List StackLink → ℕ → DpId → ℕ → Packet → List Arrival
walk_by held conf ls zero id port p = []
walk_by held conf ls (suc k) id port p = flat_map (going_on conf ls (λ e q y. walk_by held conf ls k e q y) id) (first_run (held id) port p)
