-- When a packet changes what is known: its host is learned, or there is room for the neighbour that it looks for or tells of.
use Rattle.std.specs.Prelude.{ℕ, ◌==◌, ◌*◌, ◌&&◌, not, Bool, true, false, if◌then◌else◌, Option, None}
use Rattle.std.specs.Option.{option_and_then, option_map_or}
use Rattle.net_base.specs.declared.address.Mac.{Mac}
use Rattle.net_base.specs.declared.numbers.DpId.{DpId}
use Rattle.conf_types.specs.declared.address.Ip.{Ip}
use Rattle.conf_types.specs.Configuration.{Configuration, vlan_with}
use Rattle.conf_types.specs.Groups.{group_of}
use Rattle.conf_types.specs.Links.{is_up}
use Rattle.conf_types.specs.State.{is_running}
use Rattle.host_learn.specs.declared.learn.Learn.{Learn}
use Rattle.host_learn.specs.declared.learn.Learn.TheVariants.{Learned, Moved, Refreshed, Full, NotLearnable}
use Rattle.host_learn.specs.Learning as hosts
use Rattle.of_match.specs.InPort.{in_port}
use Rattle.of13_codec.specs.declared.packet_in.PacketIn.{PacketIn}
use Rattle.flow_messages.specs.declared.messages.TheConstants.{COOKIE}
use Rattle.pkt_view.specs.Frame.{FrameParts, parts}
use Rattle.neighbour_resolve.specs.declared.hearing.Sender.{Sender}
use Rattle.neighbour_resolve.specs.declared.neighbour.Want.{Want}
use Rattle.neighbour_resolve.specs.declared.neighbour.Want.TheVariants as wants
use Rattle.neighbour_resolve.specs.Counted.{counted_vid}
use Rattle.neighbour_resolve.specs.Hearing.{heard_sender}
use Rattle.neighbour_resolve.specs.Table as neighbours
use Rattle.ctl_world.specs.World.{World, running, ups}
use Rattle.ctl_packets.specs.Packets.{destination, gateways, is_for_gateway, is_resolved, is_route_table, least_time, network_vlan, sources}

-- ---- hosts

-- the host was learned, moved, or was heard again
abbrev pub is_change : Learn → Bool
is_change Learned = true
is_change Moved = true
is_change Refreshed = true
is_change Full = false
is_change NotLearnable = false

abbrev pub learns : DpId → (port vid : ℕ) → Mac → World → Bool
learns dp port vid mac w =
    is_up (ups w) dp port && is_change (hosts.outcome w.conf w.hosts (record { dp = dp; port = port; vid = vid; mac = mac; learned = w.moment }))

-- ---- neighbours

-- the neighbour was there, or there is room for it
abbrev pub has_room : Want → Bool
has_room wants.Added = true
has_room wants.Known = true
has_room wants.Full = false

abbrev pub has_room_for_wanted : (group : DpId) → (vid : ℕ) → Ip → World → Bool
has_room_for_wanted group vid ip w = has_room (neighbours.outcome w.neighbours (neighbours.unresolved group vid ip w.moment))

-- the address lies in the network of a VLAN, and isn't known there
abbrev pub gleans_to : (group : DpId) → (vid : ℕ) → Ip → World → Bool
gleans_to group vid ip w =
    option_map_or (λ v. not (is_resolved w.neighbours.neighbours group v ip) && has_room_for_wanted group v ip w) (network_vlan w.conf vid ip) false

-- the address that a packet for the gateway of its VLAN looks for
abbrev pub gleaned : Configuration → (vid : ℕ) → FrameParts → Option Ip
gleaned conf vid frame = option_and_then (λ v. if is_for_gateway v frame then destination frame.upper else None) (vlan_with conf.vlans vid)

abbrev pub gleans : DpId → (vid : ℕ) → FrameParts → World → Bool
gleans dp vid frame w = option_map_or (λ ip. gleans_to (group_of w.conf dp) vid ip w) (gleaned w.conf vid frame) false

abbrev pub has_room_for_heard : DpId → (vid : ℕ) → World → Sender → Bool
has_room_for_heard dp vid w s =
    let group = group_of w.conf dp in
    has_room (neighbours.outcome w.neighbours (neighbours.resolved group vid s.ip s.mac (least_time w.conf group w.conf.dps * 1000) w.moment))

abbrev pub hears_neighbour : DpId → (vid : ℕ) → FrameParts → World → Bool
hears_neighbour dp vid frame w = option_map_or (has_room_for_heard dp vid w) (heard_sender w.conf vid frame) false

-- ---- the whole

-- by the table that sent it
abbrev pub table_changes : (table : ℕ) → DpId → (port vid : ℕ) → FrameParts → World → Bool
table_changes table dp port vid frame w =
    if table == sources then learns dp port vid frame.src w
    else if is_route_table table frame.upper then gleans dp vid frame w
    else table == gateways && hears_neighbour dp vid frame w

-- its one tag is of a VLAN that the port is an edge member of
abbrev pub vlan_changes : PacketIn → DpId → World → (port : ℕ) → FrameParts → Bool
vlan_changes m dp w port frame = option_map_or (λ vid. table_changes m.table dp port vid frame w) (counted_vid w.conf dp port frame) false

abbrev pub port_changes : PacketIn → DpId → World → (port : ℕ) → Bool
port_changes m dp w port = option_map_or (vlan_changes m dp w port) (parts m.payload) false

-- of a datapath that runs, with the cookie of this controller, and the port that it came in by
abbrev pub packet_changes : PacketIn → DpId → World → Bool
packet_changes m dp w =
    m.cookie == COOKIE && is_running (running w) dp && option_map_or (port_changes m dp w) (in_port m.fields) false
