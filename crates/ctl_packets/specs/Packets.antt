-- What a packet does that a switch sent to the controller (PACKET_IN; OpenFlow 1.3, 7.4.1).
use Rattle.std.specs.Prelude.{ℕ, ◌==◌, ◌*◌, ◌&&◌, ◌||◌, not, is_some, min, Bool, true, false, if◌then◌else◌, List, [], ◌∷◌, length, Option, Some, None}
use Rattle.std.specs.List.{find, list_any}
use Rattle.std.specs.Option.{option_map_or}
use Rattle.net_base.specs.declared.address.Mac.{Mac}
use Rattle.net_base.specs.declared.numbers.DpId.{DpId}
use Rattle.conf_types.specs.declared.address.Ip.{Ip}
use Rattle.conf_types.specs.declared.address.Ip.TheVariants as ips
use Rattle.conf_types.specs.declared.datapath.Dp.{Dp}
use Rattle.conf_types.specs.declared.state.NeighRec.{NeighRec}
use Rattle.conf_types.specs.declared.vlan.Vlan.{Vlan}
use Rattle.conf_types.specs.Configuration.{Configuration, vlan_with}
use Rattle.conf_types.specs.Families.{is_same_ip}
use Rattle.conf_types.specs.Groups.{group_of}
use Rattle.conf_types.specs.Links.{is_up}
use Rattle.conf_types.specs.Lists.{is_same}
use Rattle.conf_types.specs.Membership.{member}
use Rattle.conf_types.specs.Networks.{is_held, is_link_local, is_neighbour_address}
use Rattle.conf_types.specs.Routing.{routing_set, vips_of}
use Rattle.conf_types.specs.State.{is_running}
use Rattle.host_learn.specs.Learning.{learned}
use Rattle.of_match.specs.InPort.{in_port}
use Rattle.of13_codec.specs.declared.packet_in.PacketIn.{PacketIn}
use Rattle.flow_messages.specs.declared.messages.TheConstants.{COOKIE}
use Rattle.plan_base.specs.declared.table.Table.TheVariants.{Ipv4Route, Ipv6Route, Source, Vip}
use Rattle.plan_base.specs.Entries.{table_number}
use Rattle.pkt_view.specs.Frame.{FrameParts, UpperParts, Unknown, Arp, V4, V6, parts}
use Rattle.pkt_view.specs.Numbers.{ip4_at, ip6_at}
use Rattle.neighbour_resolve.specs.declared.asks.Outgoing.{Outgoing}
use Rattle.neighbour_resolve.specs.declared.answers.Reply.{Reply}
use Rattle.neighbour_resolve.specs.declared.answers.Reply.TheVariants.{ArpReply, EchoReply, Advert, Nothing}
use Rattle.neighbour_resolve.specs.declared.hearing.Sender.{Sender}
use Rattle.neighbour_resolve.specs.Answers.{answer}
use Rattle.neighbour_resolve.specs.Asks.{send_back}
use Rattle.neighbour_resolve.specs.Counted.{counted_vid}
use Rattle.neighbour_resolve.specs.Hearing.{heard_sender}
use Rattle.neighbour_resolve.specs.Table.{after_told, resolved, stays, unresolved}
use Rattle.ctl_world.specs.Saying.{packet_out, say}
use Rattle.ctl_world.specs.World.{World, running, ups}

-- ---- hosts

-- the source of a frame is learned at the port that it came in by, where that is up
abbrev pub learn : DpId → (port vid : ℕ) → Mac → World → World
learn dp port vid mac w =
    if is_up (ups w) dp port
    then record w { hosts = learned w.conf w.hosts (record { dp = dp; port = port; vid = vid; mac = mac; learned = w.moment }) }
    else w

-- ---- neighbours

-- an address is wanted
abbrev pub want : (group : DpId) → (vid : ℕ) → Ip → World → World
want group vid ip w = record w { neighbours = after_told (stays true) (unresolved group vid ip w.moment) w.neighbours }

-- it is known at which Ethernet address the neighbour is
abbrev pub is_resolved : List NeighRec → (group : DpId) → (vid : ℕ) → Ip → Bool
is_resolved neighbours group vid ip = list_any (λ n. n.group.0 == group.0 && n.vid == vid && is_same_ip n.ip ip && is_some n.mac) neighbours

-- an address lies in a network of a VLAN that packets of VLAN vid are routed by: a link-local one is of its own VLAN alone
abbrev pub is_reached : (vid : ℕ) → Vlan → Ip → Bool
is_reached vid v ip = list_any (λ vip. is_held vip ip && (v.vid == vid || not (is_link_local vip))) v.vips

-- and is that of a neighbour of the VLAN
abbrev pub is_sought : Configuration → (vid : ℕ) → Ip → (w : ℕ) → Bool
is_sought conf vid ip w = is_neighbour_address (vips_of conf w) ip && option_map_or (λ v. is_reached vid v ip) (vlan_with conf.vlans w) false

-- the VLAN, of those that packets of VLAN vid are routed to, of which an address is a neighbour's
abbrev pub network_vlan : Configuration → (vid : ℕ) → Ip → Option ℕ
network_vlan conf vid ip = find (is_sought conf vid ip) (routing_set conf vid)

-- the address that a packet looks for is wanted in the VLAN of its network, unless it is known there
abbrev pub glean_in : (group : DpId) → Ip → World → (vid : ℕ) → World
glean_in group ip w vid = if is_resolved w.neighbours.neighbours group vid ip then w else want group vid ip w

abbrev pub glean_to : (group : DpId) → (vid : ℕ) → Ip → World → World
glean_to group vid ip w = option_map_or (glean_in group ip w) (network_vlan w.conf vid ip) w

-- the packet is one for the gateway of a VLAN that has VIPs
abbrev pub is_for_gateway : Vlan → FrameParts → Bool
is_for_gateway v frame = not (length v.vips == 0) && is_same frame.dst.0 v.mac.0

-- the address that a packet is for (RFC 791, 3.1; RFC 8200, 3)
abbrev pub destination : UpperParts → Option Ip
destination Unknown = None
destination (Arp op sha spa tha tpa) = None
destination (V4 header body) = Some (ips.V4 (ip4_at 16 header))
destination (V6 header body) = Some (ips.V6 (ip6_at 24 header))

abbrev pub glean_at : DpId → FrameParts → World → Vlan → World
glean_at dp frame w v =
    if is_for_gateway v frame then option_map_or (λ ip. glean_to (group_of w.conf dp) v.vid ip w) (destination frame.upper) w else w

abbrev pub glean : DpId → (vid : ℕ) → FrameParts → World → World
glean dp vid frame w = option_map_or (glean_at dp frame w) (vlan_with w.conf.vlans vid) w

-- how long a neighbour that was heard stays so, in seconds: the least time of the configured datapaths of its group
abbrev pub least_time : Configuration → (group : DpId) → List Dp → ℕ
least_time conf group [] = 4294967
least_time conf group (d ∷ ds) =
    if (group_of conf d.id).0 == group.0 then min d.arp_timeout (least_time conf group ds) else least_time conf group ds

abbrev pub hear_sender : DpId → (vid : ℕ) → World → Sender → World
hear_sender dp vid w s =
    let group = group_of w.conf dp in
    record w { neighbours = after_told (stays false) (resolved group vid s.ip s.mac (least_time w.conf group w.conf.dps * 1000) w.moment) w.neighbours }

abbrev pub hear_neighbour : DpId → (vid : ℕ) → FrameParts → World → World
hear_neighbour dp vid frame w = option_map_or (hear_sender dp vid w) (heard_sender w.conf vid frame) w

-- ---- answers

abbrev pub outgoing : Configuration → DpId → (port vid : ℕ) → Reply → Option Outgoing
outgoing conf dp port vid (ArpReply frame) = Some (record { frame = frame; actions = send_back vid port (member conf dp port vid) })
outgoing conf dp port vid (EchoReply frame) = Some (record { frame = frame; actions = send_back vid port (member conf dp port vid) })
outgoing conf dp port vid (Advert frame) = Some (record { frame = frame; actions = send_back vid port (member conf dp port vid) })
outgoing conf dp port vid Nothing = None

-- the answer goes back by the port that the frame came in by
abbrev pub reply : (number : ℕ) → DpId → (port vid : ℕ) → FrameParts → World → World
reply number dp port vid frame w =
    option_map_or (λ out. say number (packet_out out) w) (outgoing w.conf dp port vid (answer w.conf dp port frame)) w

-- ---- the whole

-- the tables that send packets to the controller: that of sources, those of routes, and that of what the gateways answer
abbrev pub sources : ℕ
sources = table_number Source

-- the table is that of the routes of a packet's family
abbrev pub is_route_table : (table : ℕ) → UpperParts → Bool
is_route_table table Unknown = false
is_route_table table (Arp op sha spa tha tpa) = false
is_route_table table (V4 header body) = table == table_number Ipv4Route
is_route_table table (V6 header body) = table == table_number Ipv6Route

abbrev pub gateways : ℕ
gateways = table_number Vip

-- by the table that sent it
abbrev pub packet_of_table : (table number : ℕ) → DpId → (port vid : ℕ) → FrameParts → World → World
packet_of_table table number dp port vid frame w =
    if table == sources then learn dp port vid frame.src w
    else if is_route_table table frame.upper then glean dp vid frame w
    else if table == gateways then reply number dp port vid frame (hear_neighbour dp vid frame w)
    else w

-- it counts where its one tag is of a VLAN that the port is an edge member of
abbrev pub packet_at : PacketIn → (number : ℕ) → DpId → World → (port : ℕ) → FrameParts → World
packet_at m number dp w port frame =
    option_map_or (λ vid. packet_of_table m.table number dp port vid frame w) (counted_vid w.conf dp port frame) w

abbrev pub packet_by : PacketIn → (number : ℕ) → DpId → World → (port : ℕ) → World
packet_by m number dp w port = option_map_or (packet_at m number dp w port) (parts m.payload) w

-- of a datapath that runs, with the cookie of this controller, and the port that it came in by
abbrev pub packet_in : PacketIn → (number : ℕ) → DpId → World → World
packet_in m number dp w =
    if m.cookie == COOKIE && is_running (running w) dp then option_map_or (packet_by m number dp w) (in_port m.fields) w else w
