-- The frames that ask for an address, and that answer ARP and ICMP echo requests, of IPv4 and of IPv6.
use Rattle.std.specs.Prelude.{ℕ, ◌+◌, ◌-◌, ◌%◌, ◌^◌, Bool, ◌==◌, ◌&&◌, not, nat_le, if◌then◌else◌, List, [], ◌∷◌, ◌++◌, Option, Some, None, length, take, drop, slice_index}
use Rattle.net_base.specs.declared.address.Mac.{Mac}
use Rattle.net_base.specs.declared.address.Ip4.{Ip4}
use Rattle.net_base.specs.declared.address6.Ip6.{Ip6}
use Rattle.net_base.specs.Address.{is_group}
use Rattle.of_match.specs.declared.ether_type.TheConstants.{ARP, IPV4, IPV6}
use Rattle.pkt_view.specs.Numbers.{number_at, number}
use Rattle.pkt_view.specs.Checksum.{internet_checksum}
use Rattle.pkt_view.specs.Frame.{UpperParts, Unknown, Arp, V4, V6, FrameParts}

-- a frame without tags (IEEE 802.3, 3.1.1): destination, source, type, and what it carries
abbrev pub untagged : Mac → Mac → ℕ → List ℕ → List ℕ
untagged dst src eth_type payload = dst.0 ++ src.0 ++ number 2 eth_type ++ payload

-- ---- ARP (RFC 826)

-- a packet for Ethernet (1) and IPv4, whose addresses have 6 and 4 bytes: operation, sender
-- and target
abbrev pub arp_packet : ℕ → Mac → Ip4 → Mac → Ip4 → List ℕ
arp_packet op sha spa tha tpa =
    number 2 1 ++ number 2 IPV4 ++ (6 ∷ 4 ∷ []) ++ number 2 op ++ sha.0 ++ number 4 spa.0 ++ tha.0 ++ number 4 tpa.0

abbrev pub broadcast : Mac
broadcast = record { 0 = 0xff ∷ 0xff ∷ 0xff ∷ 0xff ∷ 0xff ∷ 0xff ∷ [] }

abbrev pub not_known : Mac
not_known = record { 0 = 0 ∷ 0 ∷ 0 ∷ 0 ∷ 0 ∷ 0 ∷ [] }

-- a request (1) to all, for the target's hardware address
abbrev pub arp_request : Mac → Ip4 → Ip4 → List ℕ
arp_request src spa tpa = untagged broadcast src ARP (arp_packet 1 src spa not_known tpa)

-- a reply (2) to the one that asked
abbrev pub arp_reply : Mac → Ip4 → Mac → Ip4 → List ℕ
arp_reply src spa dst tpa = untagged dst src ARP (arp_packet 2 src spa dst tpa)

-- ---- ICMP echo (RFC 792, Echo or Echo Reply Message)

-- the total length of a packet, from its header (RFC 791, 3.1)
abbrev pub total_len : List ℕ → ℕ
total_len header = number_at 2 2 header

-- the longest packet that is answered
abbrev pub longest : ℕ
longest = 65400

-- a whole ICMP packet of at least 8 bytes, no fragment (neither offset nor more to come), under a header
-- whose checksum is right; bytes past the total length are padding (RFC 791, 3.1)
unfoldable pub carries_icmp : List ℕ → List ℕ → Bool
carries_icmp header body =
    nat_le 20 (length header) && (slice_index header 9 == 1) && (number_at 2 6 header % 2 ^ 14 == 0) && nat_le (length header + 8) (total_len header) && nat_le (total_len header) (length header + length body) && nat_le (total_len header) longest && (internet_checksum header == 0)

-- the ICMP packet, without padding
abbrev pub icmp_of : List ℕ → List ℕ → List ℕ
icmp_of header body = take (total_len header - length header) body

-- an echo request (8) of code 0 with a right checksum
unfoldable pub is_echo_request : List ℕ → Bool
is_echo_request icmp = (slice_index icmp 0 == 8) && (slice_index icmp 1 == 0) && (internet_checksum icmp == 0)

-- bytes with the checksum of them all between the two parts, which counts as 0 in it
unfoldable pub with_checksum : List ℕ → List ℕ → List ℕ
with_checksum before after = before ++ number 2 (internet_checksum (before ++ number 2 0 ++ after)) ++ after

-- the header of the reply (RFC 791, 3.1): version 4 and five words; type of service and identification
-- as they came; no flag and no offset; TTL 64; ICMP; source and destination exchanged
abbrev pub reply_start : List ℕ → ℕ → List ℕ
reply_start header icmp_len =
    (0x45 ∷ slice_index header 1 ∷ []) ++ number 2 (20 + icmp_len) ++ take 2 (drop 4 header) ++ number 2 0 ++ (64 ∷ 1 ∷ [])

abbrev pub exchanged : List ℕ → List ℕ
exchanged header = take 4 (drop 16 header) ++ take 4 (drop 12 header)

unfoldable pub reply_header : List ℕ → ℕ → List ℕ
reply_header header icmp_len = with_checksum (reply_start header icmp_len) (exchanged header)

-- the reply's ICMP part: type 0, code 0, and identifier, sequence number and data as they came
unfoldable pub reply_icmp : List ℕ → List ℕ
reply_icmp icmp = with_checksum (0 ∷ 0 ∷ []) (drop 4 icmp)

abbrev pub echo_frame : Mac → Mac → List ℕ → List ℕ → List ℕ
echo_frame src dst header icmp = untagged dst src IPV4 (reply_header header (length icmp) ++ reply_icmp icmp)

-- whether an answer is due: none to a group address, and none but to an echo request that is whole
abbrev pub is_echo_due : Mac → List ℕ → List ℕ → Bool
is_echo_due from header body = not (is_group from) && carries_icmp header body && is_echo_request (icmp_of header body)

-- the answer to what lies behind an IPv4 header
abbrev pub echo4_upper : Mac → Mac → List ℕ → List ℕ → Option (List ℕ)
echo4_upper src from header body = if is_echo_due from header body then Some (echo_frame src from header (icmp_of header body)) else None

-- ---- IPv6 (RFC 8200, 3) and ICMPv6 (RFC 4443, 2)

-- the bytes of an address
abbrev pub ip6_bytes : Ip6 → List ℕ
ip6_bytes ip = number 16 ip.0

-- a header: version 6, traffic class and flow label 0; the length of what follows; ICMPv6; the hop limit;
-- source and destination
abbrev pub header6 : ℕ → ℕ → List ℕ → List ℕ → List ℕ
header6 len hops source destination = (0x60 ∷ 0 ∷ 0 ∷ 0 ∷ []) ++ number 2 len ++ (58 ∷ hops ∷ []) ++ source ++ destination

-- what stands before a message of such a length in the sum of its checksum (RFC 8200, 8.1)
abbrev pub pseudo : List ℕ → List ℕ → ℕ → List ℕ
pseudo source destination len = source ++ destination ++ number 4 len ++ (0 ∷ 0 ∷ 0 ∷ 58 ∷ [])

-- the checksum of a message, which is 0 where the message holds its own
unfoldable pub checksum6 : List ℕ → List ℕ → List ℕ → ℕ
checksum6 source destination message = internet_checksum (pseudo source destination (length message) ++ message)

-- a message of code 0 whose checksum counts as 0: its type, and what follows
abbrev pub unsummed : ℕ → List ℕ → List ℕ
unsummed kind rest = (kind ∷ 0 ∷ []) ++ number 2 0 ++ rest

-- the same with its checksum
unfoldable pub message6 : List ℕ → List ℕ → ℕ → List ℕ → List ℕ
message6 source destination kind rest = (kind ∷ 0 ∷ []) ++ number 2 (checksum6 source destination (unsummed kind rest)) ++ rest

-- an untagged frame of a message
abbrev pub frame6 : Mac → Mac → ℕ → List ℕ → List ℕ → ℕ → List ℕ → List ℕ
frame6 dst src hops source destination kind rest =
    untagged dst src IPV6 (header6 (4 + length rest) hops source destination ++ message6 source destination kind rest)

-- ---- asking for a neighbour, and answering (RFC 4861, 4.3, 4.4 and 4.6.1)

-- the group of those whose address ends as this one (RFC 4291, 2.7.1), and its Ethernet address (RFC 2464, 7)
abbrev pub solicited : Ip6 → List ℕ
solicited target = (0xff ∷ 0x02 ∷ 0 ∷ 0 ∷ 0 ∷ 0 ∷ 0 ∷ 0 ∷ 0 ∷ 0 ∷ 0 ∷ 1 ∷ 0xff ∷ []) ++ number 3 target.0

abbrev pub solicited_mac : Ip6 → Mac
solicited_mac target = record { 0 = (0x33 ∷ 0x33 ∷ 0xff ∷ []) ++ number 3 target.0 }

-- a solicitation (135): four bytes of zeros, the target, and the sender's Ethernet address (option 1, of 8
-- bytes)
abbrev pub nd_solicit : Mac → Ip6 → Ip6 → List ℕ
nd_solicit src spa target =
    frame6 (solicited_mac target) src 255 (ip6_bytes spa) (solicited target) 135 ((0 ∷ 0 ∷ 0 ∷ 0 ∷ []) ++ ip6_bytes target ++ (1 ∷ 1 ∷ []) ++ src.0)

-- an advertisement (136): from a router, solicited, in place of what was known; the target, which is the
-- sender, and its Ethernet address (option 2)
abbrev pub nd_advert : Mac → Ip6 → Mac → Ip6 → List ℕ
nd_advert src spa dst to =
    frame6 dst src 255 (ip6_bytes spa) (ip6_bytes to) 136 ((0xe0 ∷ 0 ∷ 0 ∷ 0 ∷ []) ++ ip6_bytes spa ++ (2 ∷ 1 ∷ []) ++ src.0)

-- ---- ICMPv6 echo (RFC 4443, 4.1 and 4.2)

-- the length of what follows an IPv6 header, source and destination
abbrev pub payload_len : List ℕ → ℕ
payload_len header = number_at 2 4 header

abbrev pub source6 : List ℕ → List ℕ
source6 header = take 16 (drop 8 header)

abbrev pub destination6 : List ℕ → List ℕ
destination6 header = take 16 (drop 24 header)

-- a whole message of ICMPv6 of at least 8 bytes, and no more than is answered; bytes past its length are
-- padding
unfoldable pub carries_icmp6 : List ℕ → List ℕ → Bool
carries_icmp6 header body =
    (length header == 40) && (slice_index header 6 == 58) && nat_le 8 (payload_len header) && nat_le (payload_len header) (length body) && nat_le (payload_len header) longest

abbrev pub message_in : List ℕ → List ℕ → List ℕ
message_in header body = take (payload_len header) body

-- an echo request (128) of code 0 with a right checksum
unfoldable pub is_echo6_request : List ℕ → List ℕ → Bool
is_echo6_request header message =
    (slice_index message 0 == 128) && (slice_index message 1 == 0) && (checksum6 (source6 header) (destination6 header) message == 0)

abbrev pub is_echo6_due : Mac → List ℕ → List ℕ → Bool
is_echo6_due from header body = not (is_group from) && carries_icmp6 header body && is_echo6_request header (message_in header body)

-- the reply (129): source and destination exchanged, hop limit 64, and identifier, sequence number and data
-- as they came
abbrev pub echo6_frame : Mac → Mac → List ℕ → List ℕ → List ℕ
echo6_frame src dst header message = frame6 dst src 64 (destination6 header) (source6 header) 129 (drop 4 message)

-- the answer to what lies behind an IPv6 header
abbrev pub echo6_upper : Mac → Mac → List ℕ → List ℕ → Option (List ℕ)
echo6_upper src from header body =
    if is_echo6_due from header body then Some (echo6_frame src from header (message_in header body)) else None

-- ---- either of them

-- the answer to a frame, sent from src
abbrev pub echo_upper : Mac → Mac → UpperParts → Option (List ℕ)
echo_upper src from Unknown = None
echo_upper src from (Arp op sha spa tha tpa) = None
echo_upper src from (V4 header body) = echo4_upper src from header body
echo_upper src from (V6 header body) = echo6_upper src from header body

abbrev pub echo_reply : Mac → FrameParts → Option (List ℕ)
echo_reply src request = echo_upper src request.src request.upper
