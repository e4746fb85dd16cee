-- What actions do to a packet, and what they send (OpenFlow 1.3, 5.12 and 7.2.5).
use Rattle.std.specs.Prelude.{ℕ, ◌-◌, ◌%◌, ◌^◌, false, ◌==◌, nat_lt, if◌then◌else◌, List, [], ◌∷◌, ◌++◌, Option, Some, None, option_and_then}
use Rattle.std.specs.Option.{option_map, option_map_or}
use Rattle.net_base.specs.Address.{mac_of}
use Rattle.net_base.specs.declared.address6.Ip6.{Ip6}
use Rattle.net_base.specs.declared.field.FieldId.{FieldId}
use Rattle.net_base.specs.declared.field.FieldId.TheVariants.{EthDst, EthSrc, EthType, VlanVid, VlanPcp, IpProto, Ipv4Src, Ipv4Dst, TcpSrc, TcpDst, UdpSrc, UdpDst, Icmpv4Type, Icmpv4Code, ArpOp, ArpSpa, ArpTpa, Ipv6Src, Ipv6Dst, Icmpv6Type, Icmpv6Code, Ipv6NdTarget}
use Rattle.of_match.specs.declared.action.TheConstants.{IN_PORT}
use Rattle.of_match.specs.declared.action.Action.{Action}
use Rattle.of_match.specs.declared.action.Action.TheVariants.{Output, PushVlan, PopVlan, DecTtl, Set}
use Rattle.of_match.specs.declared.packet.Tag.{Tag}
use Rattle.of_match.specs.declared.packet.L4.{L4}
use Rattle.of_match.specs.declared.packet.L4.TheVariants.{Tcp, Udp, Icmp, Icmp6}
use Rattle.of_match.specs.declared.packet.Upper.{Upper}
use Rattle.of_match.specs.declared.packet.Upper.TheVariants.{None as NoUpper, Arp, V4, V6}
use Rattle.of_match.specs.declared.packet.Packet.{Packet}
use Rattle.of_match.specs.declared.packet.Sent.{Sent}
use Rattle.of_match.specs.declared.packet.Acted.{Acted}

-- ---- SET_FIELD: the low bits of the value, as many as the header field has

-- a tag, which keeps its other parts
abbrev pub set_tag : FieldId → ℕ → Tag → Tag
set_tag VlanVid v tag = record tag { vid = v % 2 ^ 12 }
set_tag VlanPcp v tag = record tag { pcp = v % 2 ^ 3 }
set_tag id v tag = tag

-- the outermost tag; without a tag nothing changes
abbrev pub set_tags : FieldId → ℕ → List Tag → List Tag
set_tags id v [] = []
set_tags id v (tag ∷ tags) = set_tag id v tag ∷ tags

-- a target, if there is one
abbrev pub set_target : ℕ → Option Ip6 → Option Ip6
set_target v target = option_map (λ ip. record { 0 = v % 2 ^ 128 }) target

-- the transport header; one that lacks the field stays as it is
abbrev pub set_l4 : FieldId → ℕ → L4 → L4
set_l4 TcpSrc v (Tcp src dst) = Tcp (v % 2 ^ 16) dst
set_l4 TcpDst v (Tcp src dst) = Tcp src (v % 2 ^ 16)
set_l4 UdpSrc v (Udp src dst) = Udp (v % 2 ^ 16) dst
set_l4 UdpDst v (Udp src dst) = Udp src (v % 2 ^ 16)
set_l4 Icmpv4Type v (Icmp kind code) = Icmp (v % 2 ^ 8) code
set_l4 Icmpv4Code v (Icmp kind code) = Icmp kind (v % 2 ^ 8)
set_l4 Icmpv6Type v (Icmp6 kind code target) = Icmp6 (v % 2 ^ 8) code target
set_l4 Icmpv6Code v (Icmp6 kind code target) = Icmp6 kind (v % 2 ^ 8) target
set_l4 Ipv6NdTarget v (Icmp6 kind code target) = Icmp6 kind code (set_target v target)
set_l4 id v l4 = l4

-- the headers behind the EtherType; those that lack the field stay as they are
abbrev pub set_upper : FieldId → ℕ → Upper → Upper
set_upper ArpOp v (Arp op spa tpa) = Arp (v % 2 ^ 16) spa tpa
set_upper ArpSpa v (Arp op spa tpa) = Arp op (record { 0 = v % 2 ^ 32 }) tpa
set_upper ArpTpa v (Arp op spa tpa) = Arp op spa (record { 0 = v % 2 ^ 32 })
set_upper IpProto v (V4 src dst proto ttl l4) = V4 src dst (v % 2 ^ 8) ttl l4
set_upper Ipv4Src v (V4 src dst proto ttl l4) = V4 (record { 0 = v % 2 ^ 32 }) dst proto ttl l4
set_upper Ipv4Dst v (V4 src dst proto ttl l4) = V4 src (record { 0 = v % 2 ^ 32 }) proto ttl l4
set_upper id v (V4 src dst proto ttl l4) = V4 src dst proto ttl (set_l4 id v l4)
set_upper IpProto v (V6 src dst proto hops l4) = V6 src dst (v % 2 ^ 8) hops l4
set_upper Ipv6Src v (V6 src dst proto hops l4) = V6 (record { 0 = v % 2 ^ 128 }) dst proto hops l4
set_upper Ipv6Dst v (V6 src dst proto hops l4) = V6 src (record { 0 = v % 2 ^ 128 }) proto hops l4
set_upper id v (V6 src dst proto hops l4) = V6 src dst proto hops (set_l4 id v l4)
set_upper id v upper = upper

-- a field of the packet; the port that it came in by is none
abbrev pub set_value : FieldId → ℕ → Packet → Packet
set_value EthDst v p = record p { dst = mac_of v }
set_value EthSrc v p = record p { src = mac_of v }
set_value EthType v p = record p { eth_type = v % 2 ^ 16 }
set_value id v p = record p { tags = set_tags id v p.tags; upper = set_upper id v p.upper }

-- ---- the other actions

-- PUSH_VLAN: a new outermost tag, with the priority and the identifier of the one that was, or zeros
abbrev pub pushed : ℕ → List Tag → List Tag
pushed tpid [] = record { tpid = tpid; pcp = 0; dei = false; vid = 0 } ∷ []
pushed tpid (tag ∷ tags) = record { tpid = tpid; pcp = tag.pcp; dei = false; vid = tag.vid } ∷ tag ∷ tags

-- POP_VLAN: without the outermost tag, if there is one
abbrev pub popped : List Tag → List Tag
popped [] = []
popped (tag ∷ tags) = tags

-- DEC_NW_TTL: one less of the TTL or hop limit, unless there is none or it is 0 or 1
abbrev pub lowered : Upper → Option Upper
lowered NoUpper = None
lowered (Arp op spa tpa) = None
lowered (V4 src dst proto ttl l4) = if nat_lt ttl 2 then None else Some (V4 src dst proto (ttl - 1) l4)
lowered (V6 src dst proto hops l4) = if nat_lt hops 2 then None else Some (V6 src dst proto (hops - 1) l4)

-- the packet that an action leaves, or none where the packet ends
abbrev pub left_by : Action → Packet → Option Packet
left_by (Output port max_len) p = Some p
left_by (PushVlan tpid) p = Some (record p { tags = pushed tpid p.tags })
left_by PopVlan p = Some (record p { tags = popped p.tags })
left_by DecTtl p = option_map (λ upper. record p { upper = upper }) (lowered p.upper)
left_by (Set f) p = Some (set_value f.id f.value p)

-- OUTPUT: by IN_PORT to where the packet came from, and by that port's own number nowhere
abbrev pub output : ℕ → ℕ → Packet → List Sent
output to port p =
    if to == IN_PORT then record { port = port; packet = p } ∷ [] else (if to == port then [] else record { port = to; packet = p } ∷ [])

-- what an action sends of a packet that came in by a port
abbrev pub sends_of : Action → ℕ → Packet → List Sent
sends_of (Output to max_len) port p = output to port p
sends_of (PushVlan tpid) port p = []
sends_of PopVlan port p = []
sends_of DecTtl port p = []
sends_of (Set f) port p = []

-- ---- actions in order

-- the packet that is left, or none where an action ended it
abbrev pub act_left : List Action → Packet → Option Packet
act_left [] p = Some p
act_left (a ∷ more) p = option_and_then (act_left more) (left_by a p)

-- what is sent until then, in order
abbrev pub act_sends : List Action → ℕ → Packet → List Sent
act_sends [] port p = []
act_sends (a ∷ more) port p = sends_of a port p ++ option_map_or (act_sends more port) (left_by a p) []

-- both
abbrev pub act : List Action → ℕ → Packet → Acted
act actions port p = record { sents = act_sends actions port p; left = act_left actions p }
