-- The packet of a frame.
use Rattle.std.specs.Prelude.{ℕ, ◌/◌, ◌%◌, ◌^◌, ◌==◌, ◌&&◌, ◌||◌, Bool, true, false, nat_le, if◌then◌else◌, List, [], ◌∷◌, ◌++◌, Option, Some, None, length, take, drop, slice_index}
use Rattle.std.specs.Option.{option_map}
use Rattle.net_base.specs.declared.address6.Ip6.{Ip6}
use Rattle.of_match.specs.declared.packet.Tag.{Tag}
use Rattle.of_match.specs.declared.packet.L4.{L4}
use Rattle.of_match.specs.declared.packet.L4.TheVariants.{None as NoL4, Tcp, Udp, Icmp, Icmp6}
use Rattle.of_match.specs.declared.packet.Upper.{Upper}
use Rattle.of_match.specs.declared.packet.Upper.TheVariants.{None as NoUpper, Arp as ArpPart, V4 as V4Part, V6 as V6Part}
use Rattle.of_match.specs.declared.packet.Packet.{Packet}
use Rattle.pkt_view.specs.Numbers.{number_at, ip4_at, ip6_at}
use Rattle.pkt_view.specs.Frame.{UpperParts, Unknown, Arp, V4, V6, FrameParts, parts}

-- the tag in the first four bytes: its type, then a number of 3 bits of priority, one of whether the
-- frame may be dropped first, and 12 of the VLAN (IEEE 802.1Q, 9.6)
abbrev pub tag_of : List ℕ → Tag
tag_of bytes =
    record { tpid = number_at 2 0 bytes; pcp = number_at 2 2 bytes / 2 ^ 13 % 2 ^ 3; dei = number_at 2 2 bytes / 2 ^ 12 % 2 == 1; vid = number_at 2 2 bytes % 2 ^ 12 }

-- tags of four bytes each, one behind the other
unfoldable pub tags_of : List ℕ → List Tag
tags_of (a ∷ b ∷ c ∷ d ∷ more) = tag_of (a ∷ b ∷ c ∷ d ∷ more) ∷ tags_of more
tags_of bytes = []

-- the ports of TCP (6) and UDP (17), four bytes, and the type and code of ICMP (1), two bytes, where
-- they lie within what follows the header (RFC 9293, 3.1; RFC 768; RFC 792)
abbrev pub l4_in : ℕ → List ℕ → L4
l4_in proto body =
    if (proto == 6) && nat_le 4 (length body) then Tcp (number_at 2 0 body) (number_at 2 2 body)
    else (if (proto == 17) && nat_le 4 (length body) then Udp (number_at 2 0 body) (number_at 2 2 body)
    else (if (proto == 1) && nat_le 2 (length body) then Icmp (slice_index body 0) (slice_index body 1) else NoL4))

-- a fragment that isn't the first one has none of them (RFC 791, 3.1, Fragment Offset)
unfoldable pub l4_of : List ℕ → List ℕ → L4
l4_of header body = if number_at 2 6 header % 2 ^ 13 == 0 then l4_in (slice_index header 9) body else NoL4

-- a message that solicits a neighbour (135) or advertises one (136) has a target behind its first 8
-- bytes, where that lies within it (RFC 4861, 4.3 and 4.4)
abbrev pub has_target : List ℕ → Bool
has_target body = ((slice_index body 0 == 135) || (slice_index body 0 == 136)) && nat_le 24 (length body)

abbrev pub target_of : List ℕ → Option Ip6
target_of body = if has_target body then Some (ip6_at 8 body) else None

-- type, code and target of a message of ICMPv6 (RFC 4443, 2.1)
abbrev pub icmp6_in : List ℕ → L4
icmp6_in body = if nat_le 2 (length body) then Icmp6 (slice_index body 0) (slice_index body 1) (target_of body) else NoL4

-- what stands behind an IPv6 header, where ICMPv6 (58) is in place of ICMP
unfoldable pub next_of : ℕ → List ℕ → L4
next_of proto body = if proto == 58 then icmp6_in body else (if proto == 1 then NoL4 else l4_in proto body)

-- how many bytes these take, but for a target
abbrev pub l4_len : L4 → ℕ
l4_len NoL4 = 0
l4_len (Tcp src dst) = 4
l4_len (Udp src dst) = 4
l4_len (Icmp kind code) = 2
l4_len (Icmp6 kind code target) = 2

-- a target is there
abbrev pub has_named_target : L4 → Bool
has_named_target (Icmp6 kind code (Some target)) = true
has_named_target l4 = false

-- what of a message is no named part: with a target what stands before it and what follows it
abbrev pub next_rest : L4 → List ℕ → List ℕ
next_rest l4 body = if has_named_target l4 then take 6 (drop 2 body) ++ drop 24 body else drop (l4_len l4) body

-- what of the headers behind the EtherType can be matched (RFC 826; RFC 791, 3.1; RFC 8200, 3)
abbrev pub upper_of : UpperParts → Upper
upper_of Unknown = NoUpper
upper_of (Arp op sha spa tha tpa) = ArpPart op spa tpa
upper_of (V4 header body) =
    V4Part (ip4_at 12 header) (ip4_at 16 header) (slice_index header 9) (slice_index header 8) (l4_of header body)
upper_of (V6 header body) =
    V6Part (ip6_at 8 header) (ip6_at 24 header) (slice_index header 6) (slice_index header 7) (next_of (slice_index header 6) body)

-- all further bytes behind the EtherType, in order; the header checksum of IPv4, its bytes 10 and 11,
-- is no part of a packet, and of an IPv6 header what stands before the protocol is none that is named
abbrev pub rest_of : List ℕ → UpperParts → List ℕ
rest_of payload Unknown = payload
rest_of payload (Arp op sha spa tha tpa) = take 6 payload ++ sha.0 ++ tha.0 ++ drop 28 payload
rest_of payload (V4 header body) = take 8 header ++ drop 20 header ++ drop (l4_len (l4_of header body)) body
rest_of payload (V6 header body) = take 6 header ++ next_rest (next_of (slice_index header 6) body) body

unfoldable pub packet_of_parts : FrameParts → Packet
packet_of_parts p =
    record { dst = p.dst; src = p.src; tags = tags_of p.tags; eth_type = p.eth_type; upper = upper_of p.upper; rest = rest_of p.payload p.upper }

-- the packet of a frame; none where the frame ends before its EtherType
abbrev pub packet : List ℕ → Option Packet
packet frame = option_map packet_of_parts (parts frame)
