-- The way of every packet through a datapath, as the configuration describes it: what is sent, in no
-- particular order. Each step says what it sends and hands the packet to the next.
use Rattle.std.specs.Prelude.{ℕ, ◌==◌, ◌&&◌, not, Bool, List, [], ◌++◌, if◌then◌else◌}
use Rattle.std.specs.Option.{option_and_then, option_map_or}
use Rattle.net_base.specs.declared.numbers.DpId.{DpId}
use Rattle.of_match.specs.Hit.{outermost}
use Rattle.of_match.specs.declared.ether_type.TheConstants.{LLDP}
use Rattle.of_match.specs.declared.packet.Packet.{Packet}
use Rattle.of_match.specs.declared.packet.Sent.{Sent}
use Rattle.stack_paths.specs.Stack.{Stack}
use Rattle.conf_types.specs.declared.datapath.Dp.{Dp}
use Rattle.conf_types.specs.declared.datapath.Port.{Port}
use Rattle.conf_types.specs.declared.vlan.Vlan.{Vlan}
use Rattle.conf_types.specs.Configuration.{Configuration, dp_with, port_with, vlan_with}
use Rattle.conf_types.specs.Groups.{group_of}
use Rattle.conf_types.specs.Membership.{is_stack, is_accepting, mirrors_of}
use Rattle.conf_types.specs.State.{State}
use Rattle.packet_way.specs.declared.source.Heard.{Heard}
use Rattle.packet_way.specs.declared.source.Heard.TheVariants as heard_case
use Rattle.packet_way.specs.declared.routes.Routed.{Routed}
use Rattle.packet_way.specs.declared.routes.Routed.TheVariants.{GoesOn, ToController, Ends}
use Rattle.packet_way.specs.Leaving.{copies, to_controller}
use Rattle.packet_way.specs.Verdict.{acl_sends, is_allowed}
use Rattle.packet_way.specs.Drops.{is_dropped}
use Rattle.packet_way.specs.Admission.{admitted_to, is_tagged, tagged_with}
use Rattle.packet_way.specs.Source.{heard}
use Rattle.packet_way.specs.Routes.{route_list, routed}
use Rattle.packet_way.specs.declared.known.Onward.{Onward}
use Rattle.packet_way.specs.declared.known.Onward.TheVariants.{ByPort, OverStack, Everywhere}
use Rattle.packet_way.specs.Known.{stack_of, onward, to_port, to_hop}
use Rattle.packet_way.specs.Flood.{flooded}

-- the destination, or a flood
abbrev pub sent_onward : Stack → Dp → ℕ → Vlan → Packet → Onward → List Sent
sent_onward stack d port v p (ByPort q) = option_map_or (to_port d port v.vid p) (port_with d.ports q) []
sent_onward stack d port v p (OverStack hop) = to_hop port p hop
sent_onward stack d port v p Everywhere = flooded stack d port v p

unfoldable pub leaving : Configuration → State → Dp → ℕ → Vlan → Packet → List Sent
leaving conf now d port v p =
    let stack = stack_of conf now.ups in
    sent_onward stack d port v p (onward conf now.hosts stack d v.vid p.dst)

-- a packet of a VLAN of the configuration leaves; any other goes nowhere
abbrev pub leaving_in : Configuration → State → Dp → ℕ → ℕ → Packet → List Sent
leaving_in conf now d port vid p = option_map_or (λ v. leaving conf now d port v p) (vlan_with conf.vlans vid) []

-- what is routed
abbrev pub behind_routing : Configuration → State → Dp → ℕ → Packet → Routed → List Sent
behind_routing conf now d port p (GoesOn vid q) = leaving_in conf now d port vid q
behind_routing conf now d port p ToController = to_controller p
behind_routing conf now d port p Ends = []

unfoldable pub by_routing : Configuration → State → Dp → ℕ → Vlan → Packet → List Sent
by_routing conf now d port v p = behind_routing conf now d port p (routed (route_list conf now.neighbours (group_of conf d.id) v.vid) v p)

-- what the source decides
abbrev pub behind_source : Configuration → State → Dp → ℕ → Vlan → Packet → Heard → List Sent
behind_source conf now d port v p heard_case.GoesOn = by_routing conf now d port v p
behind_source conf now d port v p heard_case.IsCopied = to_controller p ++ by_routing conf now d port v p
behind_source conf now d port v p heard_case.Ends = []

-- the VLAN's ACLs, and then the source
unfoldable pub in_vlan : Configuration → State → Dp → Port → Vlan → Packet → List Sent
in_vlan conf now d i v p =
    acl_sends conf d v.acls i.no p ++ (if is_allowed conf v.acls i.no p then behind_source conf now d i.no v p (heard conf now d i v p.src) else [])

-- an admitted packet is copied as it came to the ports that mirror the one that it came in by
unfoldable pub admitted : Configuration → State → Dp → Port → Packet → Vlan → List Sent
admitted conf now d i p v = copies (mirrors_of d i.no) p ++ in_vlan conf now d i v (tagged_with v.vid p)

-- the port's ACLs, what the datapath drops, and admission
unfoldable pub from_edge : Configuration → State → Dp → Packet → Port → List Sent
from_edge conf now d p i =
    acl_sends conf d i.acls i.no p
    ++ (if is_allowed conf i.acls i.no p then (if is_dropped conf d p then [] else option_map_or (admitted conf now d i p) (option_and_then (vlan_with conf.vlans) (admitted_to i p)) []) else [])

-- LLDP without a tag, by which the ends of a link tell of themselves (IEEE 802.1AB, 6)
abbrev pub is_bare_lldp : Packet → Bool
is_bare_lldp p = p.eth_type == LLDP && not (is_tagged p.tags)

-- such a packet from another datapath of the stack is the controller's alone; any other comes with the tag of
-- its VLAN
unfoldable pub from_stack : Configuration → State → Dp → Packet → Port → List Sent
from_stack conf now d p i =
    if is_bare_lldp p then to_controller p else option_map_or (λ tag. leaving_in conf now d i.no tag.vid p) (outermost p.tags) []

-- the port: only an enabled end of a stack link, and an edge port that isn't output-only, take packets in
abbrev pub from_port : Configuration → State → Dp → Packet → Port → List Sent
from_port conf now d p i =
    if is_stack i then from_stack conf now d p i
    else if is_accepting i then from_edge conf now d p i
    else []

-- what a datapath sends of a packet that came in by a port with this number
abbrev pub sends : Configuration → State → DpId → ℕ → Packet → List Sent
sends conf now id port p =
    option_map_or (λ d. option_map_or (from_port conf now d p) (port_with d.ports port) []) (dp_with conf.dps id) []
