-- What the fields of a rule say of its match keys.
use Rattle.std.specs.Prelude.{◌≡◌, ℕ, ◌+◌, ◌==◌, ◌⊎◌, if◌then◌else◌, List, [], ◌∷◌, ◌++◌, codes, Option, Some, None, MatchOption}
use Rattle.net_base.specs.declared.field.Field.{Field}
use Rattle.net_base.specs.declared.field.FieldId.{FieldId}
use Rattle.net_base.specs.declared.field.FieldId.TheVariants.{EthDst, EthSrc, EthType, VlanVid, VlanPcp, IpProto, Ipv4Src, Ipv4Dst, TcpSrc, TcpDst, UdpSrc, UdpDst, Icmpv4Type, Icmpv4Code, ArpOp, ArpSpa, ArpTpa, Ipv6Src, Ipv6Dst, Icmpv6Type, Icmpv6Code, Ipv6NdTarget}
use Rattle.net_base.specs.Address.{SpellsMac, mac_value}
use Rattle.net_base.specs.Field.{exact, prefix_in}
use Rattle.conf_types.specs.declared.address.Ip.{Ip}
use Rattle.conf_types.specs.declared.address.Net.{Net}
use Rattle.conf_types.specs.Families.{ip_value, width_of, address_of, len_of}
use Rattle.yaml_tree.specs.declared.tree.Pair.{Pair}
use Rattle.yaml_tree.specs.declared.tree.Tree.{Tree}
use Rattle.conf_shape.specs.declared.kinds.Scalar.{Scalar}
use Rattle.conf_shape.specs.declared.kinds.Scalar.TheVariants.{MaskedMac, Prefix, Address}
use Rattle.conf_shape.specs.declared.raw.RawField.{RawField}
use Rattle.conf_shape.specs.Sections.{key_text}
use Rattle.conf_shape.specs.Scalars.{asked_scalar}
use Rattle.conf_shape.specs.Values.{tag_bit, spelled_at, raw_field_or, ahead}
use Rattle.law_checks.specs.Values.{IsNumber, IsText, SpellsIp, SpellsNet}

-- ---- the field that a value asks for

-- a whole number, and of a VLAN the bit that says that there is a tag
abbrev pub AsksNumber : FieldId → Tree → Option Field → Type 0
AsksNumber id t asked = (n : ℕ) × IsNumber t n × (asked ≡ Some (exact id (tag_bit id + n)))

pub record AsksMac (id : FieldId) (t : Tree) (asked : Option Field) : Type 0 where
  pub text : List ℕ
  pub mac : List ℕ
  pub is : IsText t text
  pub spelled : SpellsMac text mac
  pub field : asked ≡ Some (exact id (mac_value (record { 0 = mac })))

-- a value and a mask around a slash; a mask of zero leaves the field out
pub record AsksMaskedMac (id : FieldId) (t : Tree) (asked : Option Field) : Type 0 where
  pub before : List ℕ
  pub behind : List ℕ
  pub value : List ℕ
  pub mask : List ℕ
  pub is : IsText t (before ++ 47 ∷ behind)
  pub value_spelled : SpellsMac before value
  pub mask_spelled : SpellsMac behind mask
  pub field : asked ≡ (if mac_value (record { 0 = mask }) == 0 then None else Some (record { id = id; value = mac_value (record { 0 = value }); mask = mac_value (record { 0 = mask }) }))

-- an address of so many bits
pub record AsksAddress (width : ℕ) (id : FieldId) (t : Tree) (asked : Option Field) : Type 0 where
  pub text : List ℕ
  pub ip : Ip
  pub is : IsText t text
  pub family : width_of ip ≡ width
  pub spelled : SpellsIp text ip
  pub field : asked ≡ Some (exact id (ip_value ip))

-- a network of such addresses; a length of zero leaves the field out
pub record AsksPrefix (width : ℕ) (id : FieldId) (t : Tree) (asked : Option Field) : Type 0 where
  pub text : List ℕ
  pub net : Net
  pub is : IsText t text
  pub family : width_of (address_of net) ≡ width
  pub spelled : SpellsNet text net
  pub field : asked ≡ (if len_of net == 0 then None else Some (prefix_in width id (ip_value (address_of net)) (len_of net)))

-- by what the value has to be
abbrev pub AsksBy : Scalar → FieldId → Tree → Option Field → Type 0
AsksBy MaskedMac id t asked = AsksMac id t asked ⊎ AsksMaskedMac id t asked
AsksBy (Prefix width) id t asked = AsksAddress width id t asked ⊎ AsksPrefix width id t asked
AsksBy (Address width) id t asked = AsksAddress width id t asked
AsksBy scalar id t asked = AsksNumber id t asked

abbrev pub Asks : FieldId → Tree → Option Field → Type 0
Asks id t asked = AsksBy (asked_scalar id) id t asked

-- ---- the fields

-- the match keys with their fields, in the order of the reference
abbrev pub asked_fields : List (List ℕ × FieldId)
asked_fields =
    (codes "eth_src", EthSrc) ∷
    (codes "eth_dst", EthDst) ∷
    (codes "eth_type", EthType) ∷
    (codes "vlan_vid", VlanVid) ∷
    (codes "vlan_pcp", VlanPcp) ∷
    (codes "ip_proto", IpProto) ∷
    (codes "ipv4_src", Ipv4Src) ∷
    (codes "ipv4_dst", Ipv4Dst) ∷
    (codes "tcp_src", TcpSrc) ∷
    (codes "tcp_dst", TcpDst) ∷
    (codes "udp_src", UdpSrc) ∷
    (codes "udp_dst", UdpDst) ∷
    (codes "icmpv4_type", Icmpv4Type) ∷
    (codes "icmpv4_code", Icmpv4Code) ∷
    (codes "arp_op", ArpOp) ∷
    (codes "arp_spa", ArpSpa) ∷
    (codes "arp_tpa", ArpTpa) ∷
    (codes "ipv6_src", Ipv6Src) ∷
    (codes "ipv6_dst", Ipv6Dst) ∷
    (codes "icmpv6_type", Icmpv6Type) ∷
    (codes "icmpv6_code", Icmpv6Code) ∷
    (codes "ipv6_nd_target", Ipv6NdTarget) ∷
    []

-- what eight of them may be spelled as too
abbrev pub other_spellings : List (List ℕ × List ℕ)
other_spellings =
    (codes "dl_src", codes "eth_src") ∷
    (codes "dl_dst", codes "eth_dst") ∷
    (codes "dl_type", codes "eth_type") ∷
    (codes "dl_vlan", codes "vlan_vid") ∷
    (codes "dl_vlan_pcp", codes "vlan_pcp") ∷
    (codes "nw_proto", codes "ip_proto") ∷
    (codes "nw_src", codes "ipv4_src") ∷
    (codes "nw_dst", codes "ipv4_dst") ∷
    []

-- what the first key says, where it is written in any of its spellings: the field that its value asks for
-- stands in front, under the key as it is spelled
abbrev pub FieldSays : FieldId → Pair → (List RawField → Type 0) → List RawField → Type 0
FieldSays id p others fields = (asked : Option Field) × Asks id p.value asked × (rest : List RawField) × (fields ≡ ahead (raw_field_or (key_text p.key) asked) rest) × others rest

-- key by key; a key that isn't written has no field
abbrev pub FieldsSay : List (List ℕ × FieldId) → List Pair → List RawField → Type 0
FieldsSay [] pairs fields = fields ≡ []
FieldsSay (k ∷ ks) pairs fields = MatchOption (spelled_at other_spellings k.0 pairs) (FieldsSay ks pairs fields) (λ p. FieldSays k.1 p (FieldsSay ks pairs) fields)
