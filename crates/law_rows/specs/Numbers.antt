-- The numbers of fields (OpenFlow 1.3, 7.2.3.7), and a packet that has them all apart.
use Rattle.std.specs.Prelude.{◌≡◌, ℕ, Bool, true, List, [], ◌∷◌}
use Rattle.net_base.specs.declared.address.Mac.{Mac}
use Rattle.net_base.specs.declared.field.FieldId.{FieldId}
use Rattle.net_base.specs.declared.field.Prerequisite.{Prerequisite}
use Rattle.net_base.specs.FieldId.{number_of, bits_of, byte_len_of, may_be_masked, prerequisites_of}
use Rattle.of_match.specs.declared.packet.L4.{L4}
use Rattle.of_match.specs.declared.packet.Packet.{Packet}
use Rattle.of_match.specs.declared.packet.Tag.{Tag}
use Rattle.of_match.specs.declared.packet.Upper.{Upper}
use Rattle.of_match.specs.declared.packet.Upper.TheVariants as upper

-- the field has this number, and its value takes so many bytes
abbrev pub HasNumber : FieldId → ℕ → ℕ → Type 0
HasNumber id number bytes = (number_of id ≡ number) × (byte_len_of id ≡ bytes)

-- a value has so many bits, a mask may leave bits out or not, and the match has to have this (table 12 and 7.2.3.6)
abbrev pub Asks : FieldId → ℕ → Bool → List Prerequisite → Type 0
Asks id bits masked prerequisites = (bits_of id ≡ bits) × (may_be_masked id ≡ masked) × (prerequisites_of id ≡ prerequisites)

abbrev pub mac : ℕ → Mac
mac n = record { 0 = 2 ∷ 0 ∷ 0 ∷ 0 ∷ 0 ∷ n ∷ [] }

-- from station 1 to station 2, with priority 5 in VLAN 100
abbrev pub tagged : Tag → ℕ → Upper → Packet
tagged tag eth_type upper = record { dst = mac 2; src = mac 1; tags = tag ∷ []; eth_type = eth_type; upper = upper; rest = [] }

abbrev pub in_vlan : Tag
in_vlan = record { tpid = 0x8100; pcp = 5; dei = true; vid = 100 }

-- IPv4 from 10.0.0.1 to 10.0.0.2
abbrev pub ipv4 : ℕ → L4 → Packet
ipv4 proto l4 = tagged in_vlan 0x0800 (upper.V4 (record { 0 = 0x0a000001 }) (record { 0 = 0x0a000002 }) proto 64 l4)

-- IPv6 from fd00::1 to fd00::2
abbrev pub ipv6 : ℕ → L4 → Packet
ipv6 proto l4 =
    tagged in_vlan 0x86dd (upper.V6 (record { 0 = 0xfd000000000000000000000000000001 }) (record { 0 = 0xfd000000000000000000000000000002 }) proto 64 l4)

-- an ARP reply of 10.0.0.1 for 10.0.0.2
abbrev pub arp : Packet
arp = tagged in_vlan 0x0806 (upper.Arp 2 (record { 0 = 0x0a000001 }) (record { 0 = 0x0a000002 }))
