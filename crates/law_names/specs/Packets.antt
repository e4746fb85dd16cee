-- What a packet touches that a switch sent to the controller.
use Rattle.std.specs.Prelude.{ℕ, ◌==◌, if◌then◌else◌, List, [], ◌∷◌}
use Rattle.std.specs.Option.{option_map_or}
use Rattle.net_base.specs.declared.numbers.DpId.{DpId}
use Rattle.conf_types.specs.Groups.{group_of}
use Rattle.of_match.specs.InPort.{in_port}
use Rattle.of13_codec.specs.declared.packet_in.PacketIn.{PacketIn}
use Rattle.pkt_view.specs.Frame.{FrameParts, parts}
use Rattle.neighbour_resolve.specs.Counted.{counted_vid}
use Rattle.neighbour_resolve.specs.Hearing.{heard_sender}
use Rattle.ctl_world.specs.World.{World}
use Rattle.ctl_packets.specs.Packets.{gateways, is_route_table, sources}
use Rattle.conf_types.specs.declared.change.Change.{Change}
use Rattle.conf_types.specs.declared.change.Change.TheVariants as change

-- the host that is heard, or the neighbour. A neighbour that is looked for isn't known: nothing differs
abbrev pub by_table : (table : ℕ) → DpId → (vid : ℕ) → FrameParts → World → List Change
by_table table dp vid frame w =
    if table == sources then change.Host (group_of w.conf dp) vid frame.src ∷ []
    else if is_route_table table frame.upper then []
    else if table == gateways then option_map_or (λ s. change.Neighbour (group_of w.conf dp) vid s.ip ∷ []) (heard_sender w.conf vid frame) []
    else []

abbrev pub by_parts : PacketIn → DpId → World → (port : ℕ) → FrameParts → List Change
by_parts m dp w port frame = option_map_or (λ vid. by_table m.table dp vid frame w) (counted_vid w.conf dp port frame) []

abbrev pub by_port : PacketIn → DpId → World → (port : ℕ) → List Change
by_port m dp w port = option_map_or (by_parts m dp w port) (parts m.payload) []

abbrev pub by_packet_in : PacketIn → DpId → World → List Change
by_packet_in m dp w = option_map_or (by_port m dp w) (in_port m.fields) []
