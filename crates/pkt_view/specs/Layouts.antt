-- Packets as their fields, one behind the other.
use Rattle.std.specs.Prelude.{◌≡◌, ℕ, ◌+◌, ◌*◌, ◌/◌, ◌%◌, ◌^◌, ◌<◌, ◌≤◌, ◌⊎◌, if◌then◌else◌, List, [], ◌∷◌, ◌++◌, length, drop, Option, Some, None}
use Rattle.std.specs.List.{flat_map}
use Rattle.net_base.specs.declared.address.Mac.{Mac}
use Rattle.net_base.specs.declared.address.Ip4.{Ip4}
use Rattle.net_base.specs.declared.address6.Ip6.{Ip6}
use Rattle.net_base.specs.Address.{IsSixBytes}
use Rattle.of_match.specs.declared.ether_type.TheConstants.{ARP, IPV4, IPV6}
use Rattle.of_match.specs.declared.packet.Tag.{Tag}
use Rattle.of_match.specs.declared.packet.L4.{L4}
use Rattle.of_match.specs.declared.packet.L4.TheVariants.{None as NoL4, Tcp, Udp, Icmp, Icmp6}
use Rattle.of_match.specs.Shaped.{IsIp4}
use Rattle.of_match.specs.declared.packet.Upper.TheVariants.{V6 as V6Part}
use Rattle.pkt_view.specs.Numbers.{number, number_at, ip6_at}
use Rattle.pkt_view.specs.Checksum.{internet_checksum}
use Rattle.pkt_view.specs.Frame.{UpperParts, Unknown, Arp, V4, V6, FrameParts, upper_parts, parts}
use Rattle.pkt_view.specs.Packets.{upper_of}
use Rattle.pkt_view.specs.Replies.{arp_packet, checksum6}

-- ---- Ethernet (IEEE 802.3, 3.1.1; IEEE 802.1Q, 9.3 and 9.6)

-- a tag: its type, then a number of 3 bits of priority, one of whether the frame may be dropped first,
-- and 12 of the VLAN
abbrev pub tag_bytes : Tag → List ℕ
tag_bytes tag = number 2 tag.tpid ++ number 2 (tag.pcp * 2 ^ 13 + (if tag.dei then 2 ^ 12 else 0) + tag.vid)

-- the frame with these parts, and what of it is lent
abbrev pub frame_of : Mac → Mac → List Tag → ℕ → List ℕ → List ℕ
frame_of dst src tags eth_type payload = dst.0 ++ src.0 ++ flat_map tag_bytes tags ++ number 2 eth_type ++ payload

abbrev pub parts_of : Mac → Mac → List Tag → ℕ → List ℕ → FrameParts
parts_of dst src tags eth_type payload = record { dst = dst; src = src; tags = flat_map tag_bytes tags; eth_type = eth_type; payload = payload; upper = upper_parts eth_type payload }

-- ---- ARP (RFC 826, Packet format)

-- an ARP packet with these fields, and padding
pub record IsArp (payload : List ℕ) (op : ℕ) (sha : Mac) (spa : Ip4) (tha : Mac) (tpa : Ip4) : Type 0 where
  pub operation : op < 2 ^ 16
  pub sender : IsSixBytes sha.0 × IsIp4 spa
  pub target : IsSixBytes tha.0 × IsIp4 tpa
  pub padding : List ℕ
  pub row : payload ≡ arp_packet op sha spa tha tpa ++ padding

-- a frame of such a packet, without tag and padding: what is read of it, and its bytes, in which the
-- EtherType, hardware and protocol type, the lengths of their addresses and the operation stand one by one
pub record ShowsArp (frame : List ℕ) (dst : Mac) (op : ℕ) (sha : Mac) (spa : Ip4) (tha : Mac) (tpa : Ip4) : Type 0 where
  pub read : parts frame ≡ Some (record { dst = dst; src = sha; tags = []; eth_type = ARP; payload = drop 14 frame; upper = Arp op sha spa tha tpa })
  pub row : frame ≡ dst.0 ++ sha.0 ++ (0x08 ∷ 0x06 ∷ 0 ∷ 1 ∷ 0x08 ∷ 0x00 ∷ 6 ∷ 4 ∷ 0 ∷ op ∷ []) ++ sha.0 ++ number 4 spa.0 ++ tha.0 ++ number 4 tpa.0

-- ---- IPv4 (RFC 791, 3.1)

-- a header: the first byte holds the version, 4, and the length in words of 32 bits, 5 to 15 of them
pub record IsHeader (header : List ℕ) : Type 0 where
  pub words : ℕ
  pub more : List ℕ
  pub first : header ≡ (4 * 16 + words) ∷ more
  pub long : length header ≡ 4 * words
  pub least : 5 ≤ words
  pub most : words ≤ 15

-- the fields of one; the first byte and the number of flags and offset are told whole
pub record Header : Type 0 where
  pub first : ℕ
  pub service : ℕ
  pub total : ℕ
  pub identification : ℕ
  pub fragment : ℕ
  pub lifetime : ℕ
  pub protocol : ℕ
  pub checksum : ℕ
  pub source : ℕ
  pub destination : ℕ
  pub options : List ℕ

-- what stands before the time to live
abbrev pub header_front : Header → List ℕ
header_front h = (h.first ∷ h.service ∷ []) ++ number 2 h.total ++ number 2 h.identification ++ number 2 h.fragment

abbrev pub header_bytes : Header → List ℕ
header_bytes h =
    header_front h ++ (h.lifetime ∷ h.protocol ∷ []) ++ number 2 h.checksum ++ number 4 h.source ++ number 4 h.destination ++ h.options

-- ---- IPv6 (RFC 8200, 3)

-- a header of 40 bytes, whose first holds the version, 6, and bits of the traffic class
pub record IsHeader6 (header : List ℕ) : Type 0 where
  pub class : ℕ
  pub more : List ℕ
  pub first : header ≡ (6 * 16 + class) ∷ more
  pub fits : class < 16
  pub long : length header ≡ 40

-- the fields of one; version, traffic class and flow label are told as one number of four bytes
pub record Header6 : Type 0 where
  pub first : ℕ
  pub len : ℕ
  pub next : ℕ
  pub hops : ℕ
  pub source : ℕ
  pub destination : ℕ

abbrev pub header6_front : Header6 → List ℕ
header6_front h = number 4 h.first ++ number 2 h.len

abbrev pub header6_bytes : Header6 → List ℕ
header6_bytes h = header6_front h ++ (h.next ∷ h.hops ∷ []) ++ number 16 h.source ++ number 16 h.destination

-- ---- one of them behind its EtherType

abbrev pub IsUpper : ℕ → List ℕ → UpperParts → Type 0
IsUpper eth_type payload Unknown = Unit {0}
IsUpper eth_type payload (Arp op sha spa tha tpa) = (eth_type ≡ ARP) × IsArp payload op sha spa tha tpa
IsUpper eth_type payload (V4 header body) = (eth_type ≡ IPV4) × IsHeader header × (payload ≡ header ++ body)
IsUpper eth_type payload (V6 header body) = (eth_type ≡ IPV6) × IsHeader6 header × (payload ≡ header ++ body)

-- ---- TCP, UDP and ICMP in IPv4 (RFC 9293, 3.1; RFC 768; RFC 792)

-- a header of the protocol, in a packet that is no later fragment: three flags, then an offset of 0
-- (RFC 791, 3.1)
pub record IsFirstOf (proto : ℕ) (header : List ℕ) : Type 0 where
  pub front : List ℕ
  pub flags : ℕ
  pub lifetime : ℕ
  pub more : List ℕ
  pub count : length front ≡ 6
  pub fits : flags < 2 ^ 3
  pub row : header ≡ front ++ number 2 (flags * 2 ^ 13) ++ (lifetime ∷ proto ∷ []) ++ more

-- two ports, and all that follows
pub record HasPorts (body : List ℕ) (src dst : ℕ) : Type 0 where
  pub fits : (src < 2 ^ 16) × (dst < 2 ^ 16)
  pub more : List ℕ
  pub row : body ≡ number 2 src ++ number 2 dst ++ more

abbrev pub IsL4 : List ℕ → List ℕ → L4 → Type 0
IsL4 header body NoL4 = Unit {0}
IsL4 header body (Tcp src dst) = IsFirstOf 6 header × HasPorts body src dst
IsL4 header body (Udp src dst) = IsFirstOf 17 header × HasPorts body src dst
IsL4 header body (Icmp kind code) = IsFirstOf 1 header × ((more : List ℕ) × (body ≡ kind ∷ code ∷ more))
IsL4 header body (Icmp6 kind code target) = ⊥

-- ---- TCP, UDP and ICMPv6 in IPv6 (RFC 8200, 4; RFC 4443, 2.1)

-- a solicitation or an advertisement has its target in bytes 8 to 23 (RFC 4861, 4.3 and 4.4)
abbrev pub IsTarget : List ℕ → ℕ → Option Ip6 → Type 0
IsTarget body kind None = Unit {0}
IsTarget body kind (Some target) = ((kind ≡ 135) ⊎ (kind ≡ 136)) × (24 ≤ length body) × (target ≡ ip6_at 8 body)

pub record IsMessage (body : List ℕ) (kind code : ℕ) (target : Option Ip6) : Type 0 where
  pub more : List ℕ
  pub row : body ≡ kind ∷ code ∷ more
  pub there : IsTarget body kind target

abbrev pub IsNext : ℕ → List ℕ → L4 → Type 0
IsNext proto body NoL4 = Unit {0}
IsNext proto body (Tcp src dst) = (proto ≡ 6) × HasPorts body src dst
IsNext proto body (Udp src dst) = (proto ≡ 17) × HasPorts body src dst
IsNext proto body (Icmp kind code) = ⊥
IsNext proto body (Icmp6 kind code target) = (proto ≡ 58) × IsMessage body kind code target

-- a message with a target: four bytes behind the checksum, the target, and what follows
abbrev pub targeted : ℕ → ℕ → ℕ → ℕ → Ip6 → List ℕ → List ℕ
targeted kind code sum flags target more = (kind ∷ code ∷ []) ++ number 2 sum ++ number 4 flags ++ number 16 target.0 ++ more

-- an untagged frame of a message between neighbours: what is read of it, its right checksum, and the
-- option at its end that holds the sender's Ethernet address (RFC 4861, 4.6.1)
pub record ShowsNeighbour (frame : List ℕ) (dst src : Mac) (source : Ip6) (to : List ℕ) (kind : ℕ) (target : Ip6) (option : ℕ) : Type 0 where
  pub header : List ℕ
  pub message : List ℕ
  pub read : parts frame ≡ Some (record { dst = dst; src = src; tags = []; eth_type = IPV6; payload = header ++ message; upper = V6 header message })
  pub upper : upper_of (V6 header message) ≡ V6Part source (record { 0 = number_at 16 0 to }) 58 255 (Icmp6 kind 0 (Some target))
  pub right : checksum6 (number 16 source.0) to message ≡ 0
  pub ends : drop 24 message ≡ (option ∷ 1 ∷ []) ++ src.0

-- ---- ICMP echo in IPv4 (RFC 791, 3.1; RFC 792, Echo or Echo Reply Message)

-- the fields that may differ from one echo packet to another
pub record Echo : Type 0 where
  pub service : ℕ
  pub identification : ℕ
  pub flags : ℕ
  pub lifetime : ℕ
  pub header_sum : ℕ
  pub source : ℕ
  pub destination : ℕ
  pub options : List ℕ
  pub message_sum : ℕ
  pub identifier : ℕ
  pub sequence : ℕ
  pub sent : List ℕ

abbrev pub whole_len : Echo → ℕ
whole_len e = 20 + length e.options + (8 + length e.sent)

-- version 4 and the length in words; the unused flag and Don't Fragment, but neither More Fragments nor
-- an offset; protocol 1
abbrev pub header_of : Echo → List ℕ
header_of e =
    header_bytes (record { first = 4 * 16 + (20 + length e.options) / 4; service = e.service; total = whole_len e; identification = e.identification; fragment = e.flags * 2 ^ 14; lifetime = e.lifetime; protocol = 1; checksum = e.header_sum; source = e.source; destination = e.destination; options = e.options })

-- type; code 0; checksum; identifier; sequence number; data
abbrev pub message_of : ℕ → Echo → List ℕ
message_of kind e = (kind ∷ 0 ∷ []) ++ number 2 e.message_sum ++ number 2 e.identifier ++ number 2 e.sequence ++ e.sent

-- the numbers fit their fields, the options are whole words, the packet isn't longer than what is
-- answered, and both checksums are right
pub record IsEcho (kind : ℕ) (e : Echo) : Type 0 where
  pub service : e.service < 2 ^ 8
  pub identification : e.identification < 2 ^ 16
  pub flags : e.flags < 2 ^ 2
  pub lifetime : e.lifetime < 2 ^ 8
  pub header_sum : e.header_sum < 2 ^ 16
  pub source : e.source < 2 ^ 32
  pub destination : e.destination < 2 ^ 32
  pub options : (length e.options % 4 ≡ 0) × (length e.options ≤ 40)
  pub message_sum : e.message_sum < 2 ^ 16
  pub identifier : e.identifier < 2 ^ 16
  pub sequence : e.sequence < 2 ^ 16
  pub longest : whole_len e ≤ 65400
  pub header_right : internet_checksum (header_of e) ≡ 0
  pub message_right : internet_checksum (message_of kind e) ≡ 0

-- an echo request (8), and padding
abbrev pub IsEchoRequest : List ℕ → Type 0
IsEchoRequest payload = (e : Echo) × (padding : List ℕ) × IsEcho 8 e × (payload ≡ header_of e ++ message_of 8 e ++ padding)

-- what an answer has of the request
pub record Answers (request answer : Echo) : Type 0 where
  pub service : answer.service ≡ request.service
  pub identification : answer.identification ≡ request.identification
  pub flags : answer.flags ≡ 0
  pub lifetime : answer.lifetime ≡ 64
  pub source : answer.source ≡ request.destination
  pub destination : answer.destination ≡ request.source
  pub options : answer.options ≡ []
  pub identifier : answer.identifier ≡ request.identifier
  pub sequence : answer.sequence ≡ request.sequence
  pub sent : answer.sent ≡ request.sent

-- ---- ICMPv6 echo (RFC 8200, 3; RFC 4443, 4.1 and 4.2)

-- the fields that may differ from one echo packet to another: version, traffic class and flow label are told as
-- one number, and both addresses as bytes
pub record Echo6 : Type 0 where
  pub first : ℕ
  pub hops : ℕ
  pub source : List ℕ
  pub destination : List ℕ
  pub message_sum : ℕ
  pub identifier : ℕ
  pub sequence : ℕ
  pub sent : List ℕ

abbrev pub header6_of : Echo6 → List ℕ
header6_of e = number 4 e.first ++ number 2 (8 + length e.sent) ++ (58 ∷ e.hops ∷ []) ++ e.source ++ e.destination

-- type; code 0; checksum; identifier; sequence number; data
abbrev pub message6_of : ℕ → Echo6 → List ℕ
message6_of kind e = (kind ∷ 0 ∷ []) ++ number 2 e.message_sum ++ number 2 e.identifier ++ number 2 e.sequence ++ e.sent

-- the version is 6, the numbers fit their fields, the message isn't longer than what is answered, and its checksum
-- is right
pub record IsEcho6 (kind : ℕ) (e : Echo6) : Type 0 where
  pub version : e.first / 2 ^ 28 ≡ 6
  pub hops : e.hops < 2 ^ 8
  pub source : length e.source ≡ 16
  pub destination : length e.destination ≡ 16
  pub message_sum : e.message_sum < 2 ^ 16
  pub identifier : e.identifier < 2 ^ 16
  pub sequence : e.sequence < 2 ^ 16
  pub longest : 8 + length e.sent ≤ 65400
  pub right : checksum6 e.source e.destination (message6_of kind e) ≡ 0

-- an echo request (128), and padding
abbrev pub IsEcho6Request : List ℕ → Type 0
IsEcho6Request payload = (e : Echo6) × (padding : List ℕ) × IsEcho6 128 e × (payload ≡ header6_of e ++ message6_of 128 e ++ padding)

-- what an answer has of the request
pub record Answers6 (request answer : Echo6) : Type 0 where
  pub first : answer.first ≡ 6 * 2 ^ 28
  pub hops : answer.hops ≡ 64
  pub source : answer.source ≡ request.destination
  pub destination : answer.destination ≡ request.source
  pub identifier : answer.identifier ≡ request.identifier
  pub sequence : answer.sequence ≡ request.sequence
  pub sent : answer.sent ≡ request.sent
