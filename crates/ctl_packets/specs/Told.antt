-- The host that a PACKET_IN tells of.
use Rattle.std.specs.Prelude.{ℕ, ◌==◌, ◌&&◌, if◌then◌else◌, Option, Some, None}
use Rattle.std.specs.Option.{option_and_then}
use Rattle.net_base.specs.declared.numbers.DpId.{DpId}
use Rattle.conf_types.specs.declared.state.HostRec.{HostRec}
use Rattle.conf_types.specs.Links.{is_up}
use Rattle.conf_types.specs.State.{is_running}
use Rattle.of_match.specs.InPort.{in_port}
use Rattle.of13_codec.specs.declared.packet_in.PacketIn.{PacketIn}
use Rattle.flow_messages.specs.declared.messages.TheConstants.{COOKIE}
use Rattle.pkt_view.specs.Frame.{FrameParts, parts}
use Rattle.neighbour_resolve.specs.Counted.{counted_vid}
use Rattle.ctl_world.specs.World.{World, running, runs, ups}
use Rattle.ctl_packets.specs.Packets.{sources}

-- by a port that is up, with one tag, of a VLAN that the port is an edge member of: the source, at this moment
abbrev pub told_at : DpId → World → (port : ℕ) → FrameParts → Option HostRec
told_at dp w port frame =
    option_and_then (λ vid. if is_up (ups w) dp port then Some (record { dp = dp; port = port; vid = vid; mac = frame.src; learned = w.moment }) else None)
    (counted_vid w.conf dp port frame)

abbrev pub told_by : PacketIn → DpId → World → (port : ℕ) → Option HostRec
told_by m dp w port = option_and_then (told_at dp w port) (parts m.payload)

-- of a datapath that runs, from the table of sources, with the cookie of this controller
abbrev pub told_in : PacketIn → DpId → World → Option HostRec
told_in m dp w =
    if m.cookie == COOKIE && is_running (running w) dp && m.table == sources then option_and_then (told_by m dp w) (in_port m.fields) else None
