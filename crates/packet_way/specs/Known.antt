-- Where a packet goes on by its destination.
use Rattle.std.specs.Prelude.{ℕ, ◌==◌, ◌&&◌, not, Option, List, [], ◌∷◌, map, if◌then◌else◌}
use Rattle.std.specs.List.{find}
use Rattle.std.specs.Option.{option_map_or}
use Rattle.net_base.specs.declared.address.Mac.{Mac}
use Rattle.net_base.specs.declared.stack.Node.{Node}
use Rattle.of_match.specs.declared.packet.Packet.{Packet}
use Rattle.of_match.specs.declared.packet.Sent.{Sent}
use Rattle.stack_paths.specs.Chosen.{hop_of}
use Rattle.stack_paths.specs.Stack.{Stack}
use Rattle.conf_types.specs.declared.datapath.Dp.{Dp}
use Rattle.conf_types.specs.declared.datapath.Port.{Port}
use Rattle.conf_types.specs.declared.state.HostRec.{HostRec}
use Rattle.conf_types.specs.declared.state.UpRec.{UpRec}
use Rattle.conf_types.specs.Configuration.{Configuration}
use Rattle.conf_types.specs.Groups.{group_of}
use Rattle.conf_types.specs.Links.{links}
use Rattle.conf_types.specs.Lists.{is_same}
use Rattle.conf_types.specs.State.{is_host_in}
use Rattle.packet_way.specs.declared.known.Onward.{Onward}
use Rattle.packet_way.specs.declared.known.Onward.TheVariants.{ByPort, OverStack, Everywhere}
use Rattle.packet_way.specs.Leaving.{sent, delivered}

-- the datapaths of the configuration, in the order of their names, with the stack links that are up
abbrev pub node_of : Dp → Node
node_of d = record { id = d.id; priority = d.stack_priority }

abbrev pub stack_of : Configuration → List UpRec → Stack
stack_of conf ups = record { nodes = map node_of conf.dps; links = links conf ups }

-- the host of the datapath's group with this address in the VLAN
abbrev pub host_with : Configuration → List HostRec → Dp → ℕ → Mac → Option HostRec
host_with conf hosts d vid mac = find (λ h. is_host_in conf (group_of conf d.id) vid h && is_same h.mac.0 mac.0) hosts

-- to a host on this datapath by its port, to one elsewhere by the next hop; where none leads there it is
-- flooded
abbrev pub onward_to : Stack → Dp → HostRec → Onward
onward_to stack d h =
    if h.dp.0 == d.id.0 then ByPort h.port else option_map_or OverStack (hop_of stack d.id h.dp) Everywhere

-- and so is a packet whose destination isn't known
unfoldable pub onward : Configuration → List HostRec → Stack → Dp → ℕ → Mac → Onward
onward conf hosts stack d vid mac = option_map_or (onward_to stack d) (host_with conf hosts d vid mac) Everywhere

-- by a port of a host, but back to where it came from only with `hairpin`
abbrev pub to_port : Dp → ℕ → ℕ → Packet → Port → List Sent
to_port d port vid p q = if q.no == port && not q.hairpin then [] else delivered d vid p q

-- over the stack with its tag, but not back to where it came from
abbrev pub to_hop : ℕ → Packet → ℕ → List Sent
to_hop port p hop = if hop == port then [] else sent hop p ∷ []
