-- The parts of an Ethernet frame (IEEE 802.3, 3.1.1 and 3.2; IEEE 802.1Q, 9.3).
use Rattle.std.specs.Prelude.{◌≡◌, ℕ, suc, ◌≤◌, ◌+◌, ◌-◌, ◌*◌, ◌/◌, ◌%◌, Bool, ◌==◌, ◌&&◌, ◌||◌, not, nat_le, if◌then◌else◌, List, ◌∷◌, Option, Some, None, length, take, drop, slice_index}
use Rattle.net_base.specs.declared.address.Mac.{Mac}
use Rattle.net_base.specs.declared.address.Ip4.{Ip4}
use Rattle.of_match.specs.declared.ether_type.TheConstants.{ARP, IPV4, IPV6, SERVICE_TAG, VLAN_TAG}
use Rattle.pkt_view.specs.declared.frame.FrameView.{FrameView}
use Rattle.pkt_view.specs.declared.frame.UpperView.{UpperView}
use Rattle.pkt_view.specs.declared.frame.UpperView.TheVariants.{None as NoView, Arp as ArpView, V4 as V4View, V6 as V6View}
use Rattle.pkt_view.specs.Numbers.{number_at, mac_at, ip4_at}

-- what stands behind the EtherType, as far as it is known: an ARP packet's operation and its sender's
-- and target's addresses, or a header of IPv4 or IPv6 and what follows it
pub data UpperParts : Type 0 where
  Unknown : UpperParts
  Arp : ℕ → Mac → Ip4 → Mac → Ip4 → UpperParts
  V4 : List ℕ → List ℕ → UpperParts
  V6 : List ℕ → List ℕ → UpperParts

-- the parts of a frame, the tags as their bytes
pub record FrameParts : Type 0 where
  pub dst : Mac
  pub src : Mac
  pub tags : List ℕ
  pub eth_type : ℕ
  pub payload : List ℕ
  pub upper : UpperParts

-- what a view lends
abbrev pub shown_upper : UpperView → UpperParts
shown_upper NoView = Unknown
shown_upper (ArpView op sha spa tha tpa) = Arp op sha spa tha tpa
shown_upper (V4View header body) = V4 header.now body.now
shown_upper (V6View header body) = V6 header.now body.now

abbrev pub shown : FrameView → FrameParts
shown v = record { dst = v.dst; src = v.src; tags = v.tags.now; eth_type = v.eth_type; payload = v.payload.now; upper = shown_upper v.upper }

-- an IPv4 header has its fixed part (RFC 791, 3.1), and one of IPv6 its 40 bytes (RFC 8200, 3)
abbrev pub HasFixedPart : UpperParts → Type 0
HasFixedPart Unknown = Unit {0}
HasFixedPart (Arp op sha spa tha tpa) = Unit {0}
HasFixedPart (V4 header body) = 20 ≤ length header
HasFixedPart (V6 header body) = length header ≡ 40

-- ---- Ethernet

-- the types that show a tag (IEEE 802.1Q, 9.5)
abbrev pub is_tag_type : ℕ → Bool
is_tag_type t = (t == VLAN_TAG) || (t == SERVICE_TAG)

-- how many tags stand in a row at the front, each four bytes of which the first two are such a type
unfoldable pub tag_count : List ℕ → ℕ
tag_count (a ∷ b ∷ c ∷ d ∷ more) = if is_tag_type (number_at 2 0 (a ∷ b ∷ c ∷ d ∷ more)) then suc (tag_count more) else 0
tag_count bytes = 0

-- where the EtherType begins: behind two addresses of six bytes, and the tags
abbrev pub type_place : List ℕ → ℕ
type_place frame = 12 + 4 * tag_count (drop 12 frame)

-- the EtherType is there: two bytes, and not those of a tag that is cut off
abbrev pub has_type : List ℕ → Bool
has_type frame = nat_le (type_place frame + 2) (length frame) && not (is_tag_type (number_at 2 (type_place frame) frame))

-- ---- behind the EtherType

-- an ARP packet for Ethernet (1) and IPv4, whose addresses have 6 and 4 bytes (RFC 826)
abbrev pub is_arp : ℕ → List ℕ → Bool
is_arp eth_type payload =
    (eth_type == ARP) && nat_le 28 (length payload) && (number_at 2 0 payload == 1) && (number_at 2 2 payload == IPV4) && (slice_index payload 4 == 6) && (slice_index payload 5 == 4)

-- the length of an IPv4 header, which has it in words of 32 bits (RFC 791, 3.1, IHL)
abbrev pub header_len : List ℕ → ℕ
header_len payload = 4 * (slice_index payload 0 % 16)

-- an IPv4 packet whose header is there, with its fixed part of 20 bytes
abbrev pub is_ipv4 : ℕ → List ℕ → Bool
is_ipv4 eth_type payload =
    (eth_type == IPV4) && nat_le 20 (length payload) && (slice_index payload 0 / 16 == 4) && nat_le 20 (header_len payload) && nat_le (header_len payload) (length payload)

-- an IPv6 packet whose header is there (RFC 8200, 3)
abbrev pub is_ipv6 : ℕ → List ℕ → Bool
is_ipv6 eth_type payload = (eth_type == IPV6) && nat_le 40 (length payload) && (slice_index payload 0 / 16 == 6)

unfoldable pub upper_parts : ℕ → List ℕ → UpperParts
upper_parts eth_type payload =
    if is_arp eth_type payload
    then Arp (number_at 2 6 payload) (mac_at 8 payload) (ip4_at 14 payload) (mac_at 18 payload) (ip4_at 24 payload)
    else (if is_ipv4 eth_type payload then V4 (take (header_len payload) payload) (drop (header_len payload) payload)
    else (if is_ipv6 eth_type payload then V6 (take 40 payload) (drop 40 payload) else Unknown))

-- ---- the whole

abbrev pub parts_with : ℕ → List ℕ → FrameParts
parts_with at frame =
    record { dst = mac_at 0 frame; src = mac_at 6 frame; tags = take (at - 12) (drop 12 frame); eth_type = number_at 2 at frame; payload = drop (at + 2) frame; upper = upper_parts (number_at 2 at frame) (drop (at + 2) frame) }

-- the parts of a frame; none where it ends before its EtherType
unfoldable pub parts : List ℕ → Option FrameParts
parts frame = if has_type frame then Some (parts_with (type_place frame) frame) else None
