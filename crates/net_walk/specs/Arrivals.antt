-- Where a packet arrives that a datapath takes in.
use Rattle.std.specs.Prelude.{ℕ, zero, suc, ◌==◌, ◌&&◌, ◌||◌, Bool, false, Option, List, [], ◌∷◌, if◌then◌else◌}
use Rattle.std.specs.List.{find, flat_map, list_any}
use Rattle.std.specs.Option.{option_map, option_map_or}
use Rattle.net_base.specs.declared.numbers.DpId.{DpId}
use Rattle.net_base.specs.declared.stack.StackLink.{StackLink}
use Rattle.of_match.specs.Pipeline.{first_run}
use Rattle.of_match.specs.declared.packet.Packet.{Packet}
use Rattle.of_match.specs.declared.packet.Sent.{Sent}
use Rattle.conf_types.specs.declared.datapath.StackEnd.{StackEnd}
use Rattle.conf_types.specs.Configuration.{Configuration, dp_with}
use Rattle.conf_types.specs.Links.{links}
use Rattle.conf_types.specs.Membership.{is_stack}
use Rattle.conf_types.specs.State.{State}
use Rattle.cold_start.specs.Cold.{cold_at}
use Rattle.net_walk.specs.declared.arrival.Arrival.{Arrival}

-- ---- links

-- an end of the link is this port
abbrev pub is_at : DpId → ℕ → StackLink → Bool
is_at id port l = (l.a.0 == id.0 && l.a_port == port) || (l.b.0 == id.0 && l.b_port == port)

-- the other end of it
abbrev pub other_end : DpId → ℕ → StackLink → StackEnd
other_end id port l =
    if l.a.0 == id.0 && l.a_port == port then record { dp = l.b; port = l.b_port } else record { dp = l.a; port = l.a_port }

-- where the link leads that begins at a port
abbrev pub far_end : List StackLink → DpId → ℕ → Option StackEnd
far_end ls id port = option_map (other_end id port) (find (is_at id port) ls)

-- the port is an enabled end of a stack link, up or not
abbrev pub is_stack_port : Configuration → DpId → ℕ → Bool
is_stack_port conf id port = option_map_or (λ d. list_any (λ q. q.no == port && is_stack q) d.ports) (dp_with conf.dps id) false

-- ---- arrivals

-- what is sent by a port at which no link that is up begins arrives there; by an end of a stack link it
-- goes nowhere
abbrev pub arrived : Configuration → DpId → Sent → List Arrival
arrived conf id s =
    if is_stack_port conf id s.port then [] else record { dp = id; port = s.port; packet = s.packet } ∷ []

-- what becomes of a send: over a link that is up, what becomes of the packet at the other end
abbrev pub going_on : Configuration → List StackLink → (DpId → ℕ → Packet → List Arrival) → DpId → Sent → List Arrival
going_on conf ls beyond id s =
    option_map_or (λ far. beyond far.dp far.port s.packet) (far_end ls id s.port) (arrived conf id s)

-- the arrivals of a packet that a datapath took in by a port, over at most k datapaths one behind another: what
-- becomes of each send, in order, of the run through its cold start that takes the first in key order
unfoldable pub arrivals : Configuration → State → ℕ → DpId → ℕ → Packet → List Arrival
arrivals conf now zero id port p = []
arrivals conf now (suc k) id port p =
    flat_map (going_on conf (links conf now.ups) (λ e q y. arrivals conf now k e q y) id) (first_run (cold_at conf now id) port p)
