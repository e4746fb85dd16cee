-- Which packets a match takes.
use Rattle.std.specs.Prelude.{ℕ, ◌+◌, Bool, false, ◌==◌, List, [], ◌∷◌, Option, Some, None, bit_and}
use Rattle.std.specs.List.{list_all}
use Rattle.std.specs.Option.{option_map, option_map_or}
use Rattle.net_base.specs.declared.field.Field.{Field}
use Rattle.net_base.specs.declared.field.FieldId.{FieldId}
use Rattle.net_base.specs.declared.field.FieldId.TheVariants.{InPort, EthDst, EthSrc, EthType, VlanVid, VlanPcp, IpProto, Ipv4Src, Ipv4Dst, TcpSrc, TcpDst, UdpSrc, UdpDst, Icmpv4Type, Icmpv4Code, ArpOp, ArpSpa, ArpTpa, Ipv6Src, Ipv6Dst, Icmpv6Type, Icmpv6Code, Ipv6NdTarget}
use Rattle.net_base.specs.Address.{mac_value}
use Rattle.net_base.specs.declared.address6.Ip6.{Ip6}
use Rattle.of_match.specs.declared.packet.Tag.{Tag}
use Rattle.of_match.specs.declared.packet.L4.{L4}
use Rattle.of_match.specs.declared.packet.L4.TheVariants.{Tcp, Udp, Icmp, Icmp6}
use Rattle.of_match.specs.declared.packet.Upper.{Upper}
use Rattle.of_match.specs.declared.packet.Upper.TheVariants.{Arp, V4, V6}
use Rattle.of_match.specs.declared.packet.Packet.{Packet}

-- the first tag of a packet, if there is one (IEEE 802.1Q, 9.3)
abbrev pub outermost : List Tag → Option Tag
outermost [] = None
outermost (tag ∷ tags) = Some tag

-- 0 without a tag, else 0x1000 and the outermost tag's identifier (OpenFlow 1.3, 7.2.3.7, VLAN_VID)
abbrev pub vid_value : List Tag → ℕ
vid_value tags = option_map_or (λ tag. 0x1000 + tag.vid) (outermost tags) 0

-- the outermost tag's priority
abbrev pub pcp_value : List Tag → Option ℕ
pcp_value tags = option_map (λ tag. tag.pcp) (outermost tags)

-- the address of a target, if there is one
abbrev pub target_value : Option Ip6 → Option ℕ
target_value target = option_map (λ ip. ip.0) target

-- what the transport header has of a field
abbrev pub l4_value : FieldId → L4 → Option ℕ
l4_value TcpSrc (Tcp src dst) = Some src
l4_value TcpDst (Tcp src dst) = Some dst
l4_value UdpSrc (Udp src dst) = Some src
l4_value UdpDst (Udp src dst) = Some dst
l4_value Icmpv4Type (Icmp kind code) = Some kind
l4_value Icmpv4Code (Icmp kind code) = Some code
l4_value Icmpv6Type (Icmp6 kind code target) = Some kind
l4_value Icmpv6Code (Icmp6 kind code target) = Some code
l4_value Ipv6NdTarget (Icmp6 kind code target) = target_value target
l4_value id l4 = None

-- what the headers behind the EtherType have of a field
abbrev pub upper_value : FieldId → Upper → Option ℕ
upper_value ArpOp (Arp op spa tpa) = Some op
upper_value ArpSpa (Arp op spa tpa) = Some spa.0
upper_value ArpTpa (Arp op spa tpa) = Some tpa.0
upper_value IpProto (V4 src dst proto ttl l4) = Some proto
upper_value Ipv4Src (V4 src dst proto ttl l4) = Some src.0
upper_value Ipv4Dst (V4 src dst proto ttl l4) = Some dst.0
upper_value id (V4 src dst proto ttl l4) = l4_value id l4
upper_value IpProto (V6 src dst proto hops l4) = Some proto
upper_value Ipv6Src (V6 src dst proto hops l4) = Some src.0
upper_value Ipv6Dst (V6 src dst proto hops l4) = Some dst.0
upper_value id (V6 src dst proto hops l4) = l4_value id l4
upper_value id upper = None

-- what a packet that came in by a port has of a field (7.2.3.7)
abbrev pub value_of : FieldId → ℕ → Packet → Option ℕ
value_of InPort port p = Some port
value_of EthDst port p = Some (mac_value p.dst)
value_of EthSrc port p = Some (mac_value p.src)
value_of EthType port p = Some p.eth_type
value_of VlanVid port p = Some (vid_value p.tags)
value_of VlanPcp port p = pcp_value p.tags
value_of id port p = upper_value id p.upper

-- the packet has the field, and agrees in each bit of the mask (7.2.3.5)
abbrev pub agrees : Field → Option ℕ → Bool
agrees f None = false
agrees f (Some v) = bit_and v f.mask == bit_and f.value f.mask

-- each field of the match agrees; one that the packet lacks doesn't (5.3)
abbrev pub hits : List Field → ℕ → Packet → Bool
hits fields port p = list_all (λ f. agrees f (value_of f.id port p)) fields
