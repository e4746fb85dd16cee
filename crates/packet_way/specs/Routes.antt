-- Routing: what a VLAN's gateway does with a packet.
use Rattle.std.specs.Prelude.{ℕ, ◌-◌, ◌/◌, ◌^◌, ◌==◌, ◌&&◌, ◌||◌, not, Bool, false, nat_lt, Option, Some, None, List, [], ◌∷◌, ◌++◌, length, map, filter, if◌then◌else◌}
use Rattle.std.specs.List.{filter_map, flat_map, list_any, reduce}
use Rattle.std.specs.Option.{option_map, option_map_or, option_and_then}
use Rattle.net_base.specs.declared.address.Mac.{Mac}
use Rattle.net_base.specs.declared.address6.Ip6.{Ip6}
use Rattle.net_base.specs.declared.numbers.DpId.{DpId}
use Rattle.of_match.specs.declared.ether_type.TheConstants.{ARP, IPV4, IPV6}
use Rattle.of_match.specs.declared.packet.L4.{L4}
use Rattle.of_match.specs.declared.packet.L4.TheVariants.{Icmp, Icmp6}
use Rattle.of_match.specs.declared.packet.Packet.{Packet}
use Rattle.of_match.specs.declared.packet.Tag.{Tag}
use Rattle.of_match.specs.declared.packet.Upper.{Upper}
use Rattle.of_match.specs.declared.packet.Upper.TheVariants.{Arp, V4, V6}
use Rattle.conf_types.specs.declared.address.Ip.{Ip}
use Rattle.conf_types.specs.declared.address.Ip.TheVariants as ip
use Rattle.conf_types.specs.declared.address.Net.{Net}
use Rattle.conf_types.specs.declared.state.NeighRec.{NeighRec}
use Rattle.conf_types.specs.declared.vlan.Route.{Route}
use Rattle.conf_types.specs.declared.vlan.Vlan.{Vlan}
use Rattle.conf_types.specs.Changes.{mac_of_neighbour}
use Rattle.conf_types.specs.Configuration.{Configuration, vlan_with}
use Rattle.conf_types.specs.Families.{ip_value, width_of, is_same_family, address_of, len_of}
use Rattle.conf_types.specs.Lists.{is_same}
use Rattle.conf_types.specs.Networks.{is_held, is_vip}
use Rattle.conf_types.specs.Routing.{routing_set, vips_from}
use Rattle.packet_way.specs.declared.routes.Target.{Target}
use Rattle.packet_way.specs.declared.routes.Target.TheVariants.{Gateway, Hop, Network}
use Rattle.packet_way.specs.declared.routes.RouteItem.{RouteItem}
use Rattle.packet_way.specs.declared.routes.Routed.{Routed}
use Rattle.packet_way.specs.declared.routes.Routed.TheVariants.{GoesOn, ToController, Ends}

-- ---- the route list

-- a VIP, alone
abbrev pub vip_item : Net → RouteItem
vip_item vip = record { ip = address_of vip; len = width_of (address_of vip); to = Gateway }

-- the Ethernet address of a neighbour of the VLAN in a network of these VIPs, if it is known
abbrev pub resolved : DpId → Vlan → List Net → NeighRec → Option Mac
resolved group w vips n =
    if n.group.0 == group.0 && n.vid == w.vid && list_any (λ vip. is_held vip n.ip) vips then n.mac else None

-- a way to a neighbour of the VLAN
abbrev pub hop_item : Vlan → Ip → ℕ → Mac → RouteItem
hop_item w to len mac = record { ip = to; len = len; to = Hop w.vid w.mac mac }

-- a neighbour, alone
abbrev pub neighbour_item : DpId → Vlan → List Net → NeighRec → Option RouteItem
neighbour_item group w vips n = option_map (hop_item w n.ip (width_of n.ip)) (resolved group w vips n)

-- the network of a VIP, where neighbours are still to be found
abbrev pub network_item : Net → RouteItem
network_item vip = record { ip = address_of vip; len = len_of vip; to = Network }

-- a route whose gateway's Ethernet address is known
abbrev pub route_item : List NeighRec → DpId → Vlan → Route → Option RouteItem
route_item neighbours group w route = option_map (hop_item w (address_of route.dst) (len_of route.dst)) (mac_of_neighbour neighbours group w.vid route.gw)

-- what a VLAN adds, with these of its VIPs
abbrev pub items_of : List NeighRec → DpId → Vlan → List Net → List RouteItem
items_of neighbours group w vips =
    map vip_item vips ++ filter_map (neighbour_item group w vips) neighbours ++ map network_item vips ++ filter_map (route_item neighbours group w) w.routes

-- what a VLAN adds to the route list of VLAN vid
abbrev pub items_for : List NeighRec → DpId → ℕ → Vlan → List RouteItem
items_for neighbours group vid w = items_of neighbours group w (vips_from vid w)

-- those of each VLAN of the routing set
unfoldable pub route_list : Configuration → List NeighRec → DpId → ℕ → List RouteItem
route_list conf neighbours group vid = flat_map (λ w. option_map_or (items_for neighbours group vid) (vlan_with conf.vlans w) []) (routing_set conf vid)

-- ---- the longest prefix

-- the address is of the item's family, and has the same bits in the prefix
abbrev pub item_holds : Ip → RouteItem → Bool
item_holds to item =
    is_same_family to item.ip && (ip_value to / 2 ^ (width_of item.ip - item.len) == ip_value item.ip / 2 ^ (width_of item.ip - item.len))

abbrev pub longer : RouteItem → RouteItem → RouteItem
longer a b = if nat_lt a.len b.len then b else a

-- of the items that hold an address the one with the longest prefix
unfoldable pub longest : List RouteItem → Ip → Option RouteItem
longest items to = reduce longer (filter (item_holds to) items)

-- ---- packets for the gateway

-- the address that a packet of IP is for
abbrev pub destination : Upper → Option Ip
destination (V4 src dst proto ttl l4) = Some (ip.V4 dst)
destination (V6 src dst proto hops l4) = Some (ip.V6 dst)
destination upper = None

-- ARP for one of the VIPs (RFC 826)
abbrev pub is_arp_for : List Net → Upper → Bool
is_arp_for vips (Arp op spa tpa) = is_vip vips (ip.V4 tpa)
is_arp_for vips upper = false

-- the target of a message of neighbour discovery is one of the VIPs
abbrev pub is_target : List Net → Option Ip6 → Bool
is_target vips target = option_map_or (λ a. is_vip vips (ip.V6 a)) target false

-- a neighbour's solicitation of one of the VIPs, whatever its code (RFC 4861, 4.3)
abbrev pub is_solicited : List Net → L4 → Bool
is_solicited vips (Icmp6 kind code target) = kind == 135 && is_target vips target
is_solicited vips l4 = false

abbrev pub is_solicitation_for : List Net → Upper → Bool
is_solicitation_for vips (V6 src dst proto hops l4) = proto == 58 && is_solicited vips l4
is_solicitation_for vips upper = false

-- ICMP's echo request, whatever its code (RFC 792)
abbrev pub is_echo : L4 → Bool
is_echo (Icmp kind code) = kind == 8
is_echo l4 = false

-- ICMPv6's echo request and a neighbour's advertisement, whatever their codes (RFC 4443, 4.1; RFC 4861, 4.4)
abbrev pub is_echo_or_advert : L4 → Bool
is_echo_or_advert (Icmp6 kind code target) = kind == 128 || kind == 136
is_echo_or_advert l4 = false

-- what the controller answers or hears for one of the VIPs
abbrev pub is_told : List Net → Upper → Bool
is_told vips (V4 src dst proto ttl l4) = proto == 1 && is_echo l4
is_told vips (V6 src dst proto hops l4) = proto == 58 && (is_solicited vips l4 || is_echo_or_advert l4)
is_told vips upper = false

-- one hop less to live; with 0 or 1 left it ends (RFC 1812, 5.3.1; RFC 8200, 3)
abbrev pub hop_less : Upper → Option Upper
hop_less (V4 src dst proto ttl l4) = if nat_lt ttl 2 then None else Some (V4 src dst proto (ttl - 1) l4)
hop_less (V6 src dst proto hops l4) = if nat_lt hops 2 then None else Some (V6 src dst proto (hops - 1) l4)
hop_less upper = None

-- the outermost tag names another VLAN, and keeps its other parts
abbrev pub moved_to : ℕ → List Tag → List Tag
moved_to vid [] = []
moved_to vid (tag ∷ tags) = record tag { vid = vid } ∷ tags

-- a packet that is sent on to a neighbour, from the gateway of the neighbour's VLAN
abbrev pub sent_on : ℕ → Mac → Mac → Packet → Upper → Routed
sent_on vid gateway mac p upper =
    GoesOn vid (record p { dst = mac; src = gateway; tags = moved_to vid p.tags; upper = upper })

-- where an item of the route list leads, for a gateway with these VIPs
abbrev pub led_by : List Net → Target → Packet → Routed
led_by vips Gateway p = if is_told vips p.upper then ToController else Ends
led_by vips Network p = ToController
led_by vips (Hop vid gateway mac) p = option_map_or (sent_on vid gateway mac p) (hop_less p.upper) Ends

-- IP for the gateway takes the longest prefix of its family; without one, or without a destination, it ends
abbrev pub routed_to : List RouteItem → List Net → Packet → Routed
routed_to items vips p =
    option_map_or (λ item. led_by vips item.to p) (option_and_then (longest items) (destination p.upper)) Ends

-- what isn't for the gateway goes on, but for a neighbour that asks for a VIP
abbrev pub passed_by : Vlan → Packet → Routed
passed_by v p = if is_solicitation_for v.vips p.upper then ToController else GoesOn v.vid p

-- what becomes of a packet in VLAN v, which has its tag
unfoldable pub routed : List RouteItem → Vlan → Packet → Routed
routed items v p =
    if length v.vips == 0 then GoesOn v.vid p
    else if is_arp_for v.vips p.upper then ToController
    else if not (is_same p.dst.0 v.mac.0) then passed_by v p
    else if p.eth_type == IPV4 || p.eth_type == IPV6 then routed_to items v.vips p
    else if p.eth_type == ARP then ToController
    else Ends
