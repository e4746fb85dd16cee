use Rattle.std.specs.Prelude.{ℕ, ◌+◌, ◌-◌, ◌*◌, ◌^◌, ◌<◌, ◌≤◌, Bool, true, false, List, [], ◌∷◌}
use Rattle.net_base.specs.declared.field.FieldId.{FieldId}
use Rattle.net_base.specs.declared.field.FieldId.TheVariants.{InPort, EthDst, EthSrc, EthType, VlanVid, VlanPcp, IpProto, Ipv4Src, Ipv4Dst, TcpSrc, TcpDst, UdpSrc, UdpDst, Icmpv4Type, Icmpv4Code, ArpOp, ArpSpa, ArpTpa, Ipv6Src, Ipv6Dst, Icmpv6Type, Icmpv6Code, Ipv6NdTarget}
use Rattle.net_base.specs.declared.field.FieldRow.{FieldRow}
use Rattle.net_base.specs.declared.field.Prerequisite.{Prerequisite}
use Rattle.net_base.specs.declared.field.Prerequisite.TheVariants.{Tagged, Exactly, Either}

-- of a field its number, how many bits and how many bytes a value takes, whether a mask may leave
-- bits out, and what the match that it stands in has to have: each of these
pub record Row : Type 0 where
  pub number : ℕ
  pub bits : ℕ
  pub byte_len : ℕ
  pub may_be_masked : Bool
  pub prerequisites : List Prerequisite

abbrev pub row : ℕ → ℕ → ℕ → Bool → List Prerequisite → Row
row number bits byte_len may_be_masked prerequisites =
    record { number = number; bits = bits; byte_len = byte_len; may_be_masked = may_be_masked; prerequisites = prerequisites }

abbrev pub seen_row : FieldRow → Row
seen_row r = row r.number r.bits r.byte_len r.may_be_masked r.prerequisites.now

-- the table of fields (OpenFlow 1.3, 7.2.3.7, table 12 and `oxm_ofb_match_fields`; 7.2.3.6); one bit
-- of a VLAN identifier says that a tag is there
abbrev pub row_of : FieldId → Row
row_of InPort = row 0 32 4 false []
row_of EthDst = row 3 48 6 true []
row_of EthSrc = row 4 48 6 true []
row_of EthType = row 5 16 2 false []
row_of VlanVid = row 6 (12 + 1) 2 true []
row_of VlanPcp = row 7 3 1 false (Tagged ∷ [])
row_of IpProto = row 10 8 1 false (Either EthType 0x0800 0x86dd ∷ [])
row_of Ipv4Src = row 11 32 4 true (Exactly EthType 0x0800 ∷ [])
row_of Ipv4Dst = row 12 32 4 true (Exactly EthType 0x0800 ∷ [])
row_of TcpSrc = row 13 16 2 false (Exactly IpProto 6 ∷ [])
row_of TcpDst = row 14 16 2 false (Exactly IpProto 6 ∷ [])
row_of UdpSrc = row 15 16 2 false (Exactly IpProto 17 ∷ [])
row_of UdpDst = row 16 16 2 false (Exactly IpProto 17 ∷ [])
row_of Icmpv4Type = row 19 8 1 false (Exactly EthType 0x0800 ∷ Exactly IpProto 1 ∷ [])
row_of Icmpv4Code = row 20 8 1 false (Exactly EthType 0x0800 ∷ Exactly IpProto 1 ∷ [])
row_of ArpOp = row 21 16 2 false (Exactly EthType 0x0806 ∷ [])
row_of ArpSpa = row 22 32 4 true (Exactly EthType 0x0806 ∷ [])
row_of ArpTpa = row 23 32 4 true (Exactly EthType 0x0806 ∷ [])
row_of Ipv6Src = row 26 128 16 true (Exactly EthType 0x86dd ∷ [])
row_of Ipv6Dst = row 27 128 16 true (Exactly EthType 0x86dd ∷ [])
row_of Icmpv6Type = row 29 8 1 false (Exactly EthType 0x86dd ∷ Exactly IpProto 58 ∷ [])
row_of Icmpv6Code = row 30 8 1 false (Exactly EthType 0x86dd ∷ Exactly IpProto 58 ∷ [])
row_of Ipv6NdTarget = row 31 128 16 false (Exactly EthType 0x86dd ∷ Exactly IpProto 58 ∷ Either Icmpv6Type 135 136 ∷ [])

-- every field, by number
abbrev pub all_fields : List FieldId
all_fields = InPort ∷ EthDst ∷ EthSrc ∷ EthType ∷ VlanVid ∷ VlanPcp ∷ IpProto ∷ Ipv4Src ∷ Ipv4Dst ∷ TcpSrc ∷ TcpDst ∷ UdpSrc ∷ UdpDst ∷ Icmpv4Type ∷ Icmpv4Code ∷ ArpOp ∷ ArpSpa ∷ ArpTpa ∷ Ipv6Src ∷ Ipv6Dst ∷ Icmpv6Type ∷ Icmpv6Code ∷ Ipv6NdTarget ∷ []

abbrev pub number_of : FieldId → ℕ
number_of id = (row_of id).number

abbrev pub bits_of : FieldId → ℕ
bits_of id = (row_of id).bits

abbrev pub byte_len_of : FieldId → ℕ
byte_len_of id = (row_of id).byte_len

abbrev pub may_be_masked : FieldId → Bool
may_be_masked id = (row_of id).may_be_masked

abbrev pub prerequisites_of : FieldId → List Prerequisite
prerequisites_of id = (row_of id).prerequisites

-- the mask that leaves no bit of the field out
abbrev pub all_ones : FieldId → ℕ
all_ones id = 2 ^ (8 * byte_len_of id) - 1

-- numbers are below 32; a value has some bit, and at most 16 bytes, which hold its bits
pub record IsInBounds (id : FieldId) : Type 0 where
  pub number : number_of id < 32
  pub some_bits : 1 ≤ bits_of id
  pub bits : bits_of id ≤ 8 * byte_len_of id
  pub bytes : byte_len_of id ≤ 16
