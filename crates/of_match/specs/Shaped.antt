-- Packets whose parts fit their headers and agree with one another.
use Rattle.std.specs.Prelude.{◌≡◌, ℕ, ◌<◌, ◌^◌, ◌⊎◌, Option, Some, None}
use Rattle.std.specs.List.{AllByRecursion}
use Rattle.net_base.specs.declared.address.Ip4.{Ip4}
use Rattle.net_base.specs.declared.address6.Ip6.{Ip6}
use Rattle.net_base.specs.Address.{IsSixBytes}
use Rattle.of_match.specs.declared.ether_type.TheConstants.{ARP, IPV4, IPV6, SERVICE_TAG, VLAN_TAG}
use Rattle.of_match.specs.declared.packet.Tag.{Tag}
use Rattle.of_match.specs.declared.packet.L4.{L4}
use Rattle.of_match.specs.declared.packet.L4.TheVariants.{None as NoL4, Tcp, Udp, Icmp, Icmp6}
use Rattle.of_match.specs.declared.packet.Upper.{Upper}
use Rattle.of_match.specs.declared.packet.Upper.TheVariants.{None as NoUpper, Arp, V4, V6}
use Rattle.of_match.specs.declared.packet.Packet.{Packet}

-- a tag's type is one that shows a tag, and its numbers fit their bits (IEEE 802.1Q, 9.5 and 9.6)
pub record IsTag (tag : Tag) : Type 0 where
  pub tpid : (tag.tpid ≡ VLAN_TAG) ⊎ (tag.tpid ≡ SERVICE_TAG)
  pub pcp : tag.pcp < 2 ^ 3
  pub vid : tag.vid < 2 ^ 12

-- what is there of a transport header in IPv4 is that of the protocol
abbrev pub AgreesWithProto : ℕ → L4 → Type 0
AgreesWithProto proto NoL4 = Unit {0}
AgreesWithProto proto (Tcp src dst) = proto ≡ 6
AgreesWithProto proto (Udp src dst) = proto ≡ 17
AgreesWithProto proto (Icmp kind code) = proto ≡ 1
AgreesWithProto proto (Icmp6 kind code target) = ⊥

-- a message has a target where it solicits a neighbour or advertises one (RFC 4861, 4.3 and 4.4)
abbrev pub AgreesWithKind : ℕ → Option Ip6 → Type 0
AgreesWithKind kind None = Unit {0}
AgreesWithKind kind (Some target) = (kind ≡ 135) ⊎ (kind ≡ 136)

-- the same in IPv6
abbrev pub AgreesWithNext : ℕ → L4 → Type 0
AgreesWithNext proto NoL4 = Unit {0}
AgreesWithNext proto (Tcp src dst) = proto ≡ 6
AgreesWithNext proto (Udp src dst) = proto ≡ 17
AgreesWithNext proto (Icmp kind code) = ⊥
AgreesWithNext proto (Icmp6 kind code target) = (proto ≡ 58) × AgreesWithKind kind target

-- what is there behind the EtherType is what it announces
abbrev pub AgreesWithType : ℕ → Upper → Type 0
AgreesWithType eth_type NoUpper = Unit {0}
AgreesWithType eth_type (Arp op spa tpa) = eth_type ≡ ARP
AgreesWithType eth_type (V4 src dst proto ttl l4) = (eth_type ≡ IPV4) × AgreesWithProto proto l4
AgreesWithType eth_type (V6 src dst proto hops l4) = (eth_type ≡ IPV6) × AgreesWithNext proto l4

abbrev pub IsIp6 : Ip6 → Type 0
IsIp6 address = address.0 < 2 ^ 128

abbrev pub FitsTarget : Option Ip6 → Type 0
FitsTarget None = Unit {0}
FitsTarget (Some target) = IsIp6 target

-- the numbers of a transport header fit (RFC 9293, 3.1; RFC 768; RFC 792; RFC 4443, 2.1)
abbrev pub FitsL4 : L4 → Type 0
FitsL4 NoL4 = Unit {0}
FitsL4 (Tcp src dst) = (src < 2 ^ 16) × (dst < 2 ^ 16)
FitsL4 (Udp src dst) = (src < 2 ^ 16) × (dst < 2 ^ 16)
FitsL4 (Icmp kind code) = (kind < 2 ^ 8) × (code < 2 ^ 8)
FitsL4 (Icmp6 kind code target) = (kind < 2 ^ 8) × (code < 2 ^ 8) × FitsTarget target

abbrev pub IsIp4 : Ip4 → Type 0
IsIp4 address = address.0 < 2 ^ 32

-- the numbers behind the EtherType fit (RFC 826; RFC 791, 3.1; RFC 8200, 3)
abbrev pub FitsUpper : Upper → Type 0
FitsUpper NoUpper = Unit {0}
FitsUpper (Arp op spa tpa) = (op < 2 ^ 16) × IsIp4 spa × IsIp4 tpa
FitsUpper (V4 src dst proto ttl l4) = IsIp4 src × IsIp4 dst × (proto < 2 ^ 8) × (ttl < 2 ^ 8) × FitsL4 l4
FitsUpper (V6 src dst proto hops l4) = IsIp6 src × IsIp6 dst × (proto < 2 ^ 8) × (hops < 2 ^ 8) × FitsL4 l4

pub record IsShaped (p : Packet) : Type 0 where
  pub dst : IsSixBytes p.dst.0
  pub src : IsSixBytes p.src.0
  pub tags : AllByRecursion IsTag p.tags
  pub eth_type : p.eth_type < 2 ^ 16
  pub upper : AgreesWithType p.eth_type p.upper
  pub numbers : FitsUpper p.upper
