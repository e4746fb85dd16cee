-- Configurations, states and packets of which the way is worked out by hand: what the functions of
-- module `worked` cite.
use Rattle.std.specs.Prelude.{ℕ, ◌≤◌, ◌+◌, ◌*◌, ◌^◌, Bool, true, false, Some, None, List, [], ◌∷◌}
use Rattle.net_base.specs.declared.address.Ip4.{Ip4}
use Rattle.net_base.specs.declared.address.Mac.{Mac}
use Rattle.net_base.specs.declared.address6.Ip6.{Ip6}
use Rattle.net_base.specs.Field.{exact}
use Rattle.net_base.specs.declared.field.FieldId.TheVariants.{EthType}
use Rattle.of_match.specs.declared.ether_type.TheConstants.{ARP, IPV4, IPV6, LLDP, VLAN_TAG}
use Rattle.of_match.specs.declared.packet.L4.{L4}
use Rattle.of_match.specs.declared.packet.L4.TheVariants as l4
use Rattle.of_match.specs.declared.packet.Packet.{Packet}
use Rattle.of_match.specs.declared.packet.Tag.{Tag}
use Rattle.of_match.specs.declared.packet.Upper.TheVariants as upper
use Rattle.conf_types.specs.declared.address.Ip.{Ip}
use Rattle.conf_types.specs.declared.address.Ip.TheVariants as family
use Rattle.conf_types.specs.declared.address.Net.{Net}
use Rattle.conf_types.specs.declared.address.Net.TheVariants as net
use Rattle.conf_types.specs.declared.acl.PortRef.{PortRef}
use Rattle.conf_types.specs.declared.acl.PortRef.TheVariants.{No}
use Rattle.conf_types.specs.declared.acl.Rule.{Rule}
use Rattle.conf_types.specs.declared.datapath.Dp.{Dp}
use Rattle.conf_types.specs.declared.datapath.Port.{Port}
use Rattle.conf_types.specs.declared.state.HostRec.{HostRec}
use Rattle.conf_types.specs.declared.state.NeighRec.{NeighRec}
use Rattle.conf_types.specs.declared.state.UpRec.{UpRec}
use Rattle.conf_types.specs.declared.vlan.Vlan.{Vlan}
use Rattle.conf_types.specs.Configuration.{Configuration}
use Rattle.conf_types.specs.State.{State}
use Rattle.conf_types.specs.Worked.{dp, station, gateway, ip, edge, datapath, vlan}

-- ---- parts

abbrev pub broadcast : Mac
broadcast = record { 0 = 255 ∷ 255 ∷ 255 ∷ 255 ∷ 255 ∷ 255 ∷ [] }

-- where bridges speak: 01:80:c2:00:00:00, and Cisco's 01:00:0c:cc:cc:cd
abbrev pub bridges : Mac
bridges = record { 0 = 1 ∷ 0x80 ∷ 0xc2 ∷ 0 ∷ 0 ∷ 0 ∷ [] }

abbrev pub cisco_bridges : Mac
cisco_bridges = record { 0 = 1 ∷ 0 ∷ 0x0c ∷ 0xcc ∷ 0xcc ∷ 0xcd ∷ [] }

abbrev pub up : ℕ → ℕ → UpRec
up id port = record { dp = dp id; port = port }

abbrev pub host : ℕ → ℕ → ℕ → ℕ → ℕ → HostRec
host id port vid n learned = record { dp = dp id; port = port; vid = vid; mac = station n; learned = record { 0 = learned } }

abbrev pub tag : ℕ → Tag
tag vid = record { tpid = VLAN_TAG; pcp = 0; dei = false; vid = vid }

-- a frame of type 0x0801, with nothing behind it
abbrev pub frame : Mac → Mac → List Tag → Packet
frame dst src tags = record { dst = dst; src = src; tags = tags; eth_type = 0x0801; upper = upper.None; rest = [] }

-- LLDP from station 1 to 01:80:c2:00:00:0e, where the next bridge listens (IEEE 802.1AB, 7.1)
abbrev pub lldp : List Tag → Packet
lldp tags = record (frame (record { 0 = 1 ∷ 0x80 ∷ 0xc2 ∷ 0 ∷ 0 ∷ 0x0e ∷ [] }) (station 1) tags) { eth_type = LLDP }

-- ---- two native ports and a tagged one in VLAN 100, and nothing learned

abbrev pub plain : Configuration
plain = record { dps = datapath 1 None (edge 1 (Some 100) [] ∷ edge 2 (Some 100) [] ∷ edge 3 None (100 ∷ []) ∷ []) ∷ []; vlans = vlan 100 [] ∷ []; acls = []; routers = [] }

abbrev pub nothing_learned : State
nothing_learned = record { moment = 0; running = dp 1 ∷ []; ups = up 1 1 ∷ up 1 2 ∷ up 1 3 ∷ []; hosts = []; neighbours = [] }

-- ---- port 4 mirrors port 1

abbrev pub mirrored : Configuration
mirrored = record { dps = datapath 1 None (edge 1 (Some 100) [] ∷ edge 2 (Some 100) [] ∷ record (edge 4 None []) { mirror = 1 ∷ [] } ∷ []) ∷ []; vlans = vlan 100 [] ∷ []; acls = []; routers = [] }

-- ---- settings of a VLAN and of a port

abbrev pub settled : Dp → Vlan → Configuration
settled d v = record { dps = d ∷ []; vlans = v ∷ []; acls = []; routers = [] }

abbrev pub two_ports : Port → Port → Configuration
two_ports p q = settled (datapath 1 None (p ∷ q ∷ [])) (vlan 100 [])

-- ---- two VLANs on one port, routed

-- a network has with it that its length is at most the width of its family
abbrev pub LengthsFit : Type 0
LengthsFit = (16 ≤ 32) × (24 ≤ 32) × (64 ≤ 128)

-- the address 10.0.a.b
abbrev pub ip4 : ℕ → ℕ → Ip4
ip4 a b = record { 0 = 0x0a000000 + a * 256 + b }

-- the address fd00:a::b
abbrev pub ip6 : ℕ → ℕ → Ip6
ip6 a b = record { 0 = 0xfd00 * 2 ^ 112 + a * 2 ^ 96 + b }

-- the address fe80::b, of one link
abbrev pub local : ℕ → Ip6
local b = record { 0 = 0xfe80 * 2 ^ 112 + b }

abbrev pub vip : LengthsFit → ℕ → ℕ → Net
vip fit a b = net.V4 (record { ip = ip4 a b; len = 24; short = fit.1 })

abbrev pub vip6 : LengthsFit → Ip6 → Net
vip6 fit a = net.V6 (record { ip = a; len = 64; short = fit.2 })

-- each has an IPv4 network, an IPv6 one and a link-local one
abbrev pub two_vlans : LengthsFit → Bool → Configuration
two_vlans fit hairpin = record {
  dps = datapath 1 None (record (edge 1 None (100 ∷ 200 ∷ [])) { hairpin = hairpin } ∷ []) ∷ [];
  vlans = vlan 100 (vip fit 1 254 ∷ vip6 fit (ip6 1 0xfe) ∷ vip6 fit (local 0xfe) ∷ []) ∷ vlan 200 (vip fit 2 254 ∷ vip6 fit (ip6 2 0xfe) ∷ vip6 fit (local 0xfd) ∷ []) ∷ [];
  acls = [];
  routers = record { name = []; vlans = 100 ∷ 200 ∷ []; bgp = None } ∷ [];
}

abbrev pub neighbour : ℕ → Ip → ℕ → NeighRec
neighbour vid address n = record { group = dp 1; vid = vid; ip = address; mac = Some (station n); tries = 0; due = record { 0 = 0 } }

-- station 2 is the neighbour 10.0.2.2, fd00:2::2 and fe80::2 of VLAN 200
abbrev pub one_neighbour : State
one_neighbour = record { moment = 0; running = dp 1 ∷ []; ups = up 1 1 ∷ []; hosts = host 1 1 100 1 0 ∷ host 1 1 200 2 0 ∷ []; neighbours = neighbour 200 (ip 2 2) 2 ∷ neighbour 200 (family.V6 (ip6 2 2)) 2 ∷ neighbour 200 (family.V6 (local 2)) 2 ∷ [] }

-- an IPv4 packet of 10.0.1.1
abbrev pub v4 : Mac → Mac → List Tag → Ip4 → ℕ → ℕ → L4 → Packet
v4 dst src tags to proto ttl l4 = record { dst = dst; src = src; tags = tags; eth_type = IPV4; upper = upper.V4 (ip4 1 1) to proto ttl l4; rest = [] }

-- an IPv6 packet of fd00:1::1, from station 1 in VLAN 100
abbrev pub v6 : Mac → Ip6 → ℕ → ℕ → L4 → Packet
v6 dst to proto hops l4 = record { dst = dst; src = station 1; tags = tag 100 ∷ []; eth_type = IPV6; upper = upper.V6 (ip6 1 1) to proto hops l4; rest = [] }

abbrev pub udp6 : Ip6 → ℕ → Packet
udp6 to hops = v6 (gateway 1) to 17 hops l4.None

-- a message of ICMPv6, and one of neighbour discovery
abbrev pub icmp6 : Ip6 → ℕ → Packet
icmp6 to kind = v6 (gateway 1) to 58 255 (l4.Icmp6 kind 0 None)

abbrev pub discovery : Mac → Ip6 → ℕ → Ip6 → Packet
discovery dst to kind target = v6 dst to 58 255 (l4.Icmp6 kind 0 (Some target))

-- where a solicitation of an address that ends in 0000fe goes: 33:33:ff:00:00:fe and ff02::1:ff00:fe
-- (RFC 2464, 7; RFC 4291, 2.7.1)
abbrev pub solicited : Mac
solicited = record { 0 = 0x33 ∷ 0x33 ∷ 0xff ∷ 0 ∷ 0 ∷ 0xfe ∷ [] }

abbrev pub solicited_node : Ip6
solicited_node = record { 0 = 0xff02 * 2 ^ 112 + 0x1ff0000fe }

-- a UDP packet of which nothing behind its header is there
abbrev pub udp : Ip4 → ℕ → Packet
udp to ttl = v4 (gateway 1) (station 1) (tag 100 ∷ []) to 17 ttl l4.None

abbrev pub ping : Ip4 → Packet
ping to = v4 (gateway 1) (station 1) (tag 100 ∷ []) to 1 64 (l4.Icmp 8 0)

abbrev pub arp : Mac → Ip4 → Packet
arp dst target = record { dst = dst; src = station 1; tags = tag 100 ∷ []; eth_type = ARP; upper = upper.Arp 1 (ip4 1 1) target; rest = [] }

-- ---- two routes, of which one leads into the other's network

-- the network 10.9.third.0
abbrev pub far_net : (len : ℕ) → len ≤ 32 → ℕ → Net
far_net len fits third = net.V4 (record { ip = record { 0 = 0x0a090000 + third * 256 }; len = len; short = fits })

abbrev pub two_routes : LengthsFit → Configuration
two_routes fit = settled (datapath 1 None (edge 1 (Some 100) [] ∷ edge 2 (Some 100) [] ∷ [])) (record (vlan 100 (vip fit 1 254 ∷ [])) { routes = record { dst = far_net 16 fit.0 0; gw = ip 1 7 } ∷ record { dst = far_net 24 fit.1 1; gw = ip 1 8 } ∷ record { dst = far_net 24 fit.1 2; gw = ip 1 9 } ∷ [] })

abbrev pub two_gateways : State
two_gateways = record { moment = 0; running = dp 1 ∷ []; ups = []; hosts = host 1 1 100 1 0 ∷ host 1 2 100 7 0 ∷ host 1 2 100 8 0 ∷ []; neighbours = neighbour 100 (ip 1 7) 7 ∷ neighbour 100 (ip 1 8) 8 ∷ record (neighbour 100 (ip 1 9) 9) { mac = None } ∷ [] }

-- ---- a ring of three datapaths: port 1 is native, and the links join 1:2 to 2:2, 1:3 to 3:2, 2:3 to 3:3

abbrev pub link : ℕ → ℕ → ℕ → Port
link number id port = record (edge number None []) { stack = Some (record { dp = dp id; port = port }) }

abbrev pub ring : Configuration
ring = record {
  dps = datapath 1 (Some 1) (edge 1 (Some 100) [] ∷ link 2 2 2 ∷ link 3 3 2 ∷ []) ∷ datapath 2 None (edge 1 (Some 100) [] ∷ link 2 1 2 ∷ link 3 3 3 ∷ []) ∷ datapath 3 None (edge 1 (Some 100) [] ∷ link 2 1 3 ∷ link 3 2 3 ∷ []) ∷ [];
  vlans = vlan 100 [] ∷ [];
  acls = [];
  routers = [];
}

-- hosts 1, 2 and 3 stand on the datapaths with their numbers
abbrev pub ring_with : List UpRec → State
ring_with ups = record { moment = 0; running = dp 1 ∷ dp 2 ∷ dp 3 ∷ []; ups = ups; hosts = host 1 1 100 1 0 ∷ host 2 1 100 2 0 ∷ host 3 1 100 3 0 ∷ []; neighbours = [] }

abbrev pub all_up : List UpRec
all_up = up 1 1 ∷ up 1 2 ∷ up 1 3 ∷ up 2 1 ∷ up 2 2 ∷ up 2 3 ∷ up 3 1 ∷ up 3 2 ∷ up 3 3 ∷ []

-- without the link of datapaths 1 and 2, of which one end is down
abbrev pub link_down : List UpRec
link_down = up 1 1 ∷ up 1 3 ∷ up 2 1 ∷ up 2 2 ∷ up 2 3 ∷ up 3 1 ∷ up 3 2 ∷ up 3 3 ∷ []

-- ---- hosts

abbrev pub learned : ℕ → List HostRec → State
learned moment hosts = record { moment = moment; running = dp 1 ∷ []; ups = up 1 1 ∷ up 1 2 ∷ up 1 3 ∷ []; hosts = hosts; neighbours = [] }

-- ---- rules

abbrev pub rule : ℕ → Bool → List PortRef → List PortRef → Rule
rule eth_type allow output mirror = record { fields = exact EthType eth_type ∷ []; allow = allow; output = output; mirror = mirror }

-- IPv4 goes to port 3 and no further, type 0x0801 goes on
abbrev pub ruled : Configuration
ruled = record {
  dps = datapath 1 None (record (edge 1 (Some 100) []) { acls = (97 ∷ []) ∷ [] } ∷ edge 2 (Some 100) [] ∷ edge 3 (Some 200) [] ∷ []) ∷ [];
  vlans = vlan 100 [] ∷ vlan 200 [] ∷ [];
  acls = record { name = 97 ∷ []; rules = rule 0x0800 false (No 1 ∷ No 3 ∷ []) (No 3 ∷ []) ∷ rule 0x0801 true [] [] ∷ [] } ∷ [];
  routers = [];
}
