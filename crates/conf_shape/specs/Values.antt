-- Addresses, networks and the fields of a rule, as texts and numbers give them.
use Rattle.std.specs.Prelude.{ℕ, ◌+◌, ◌==◌, if◌then◌else◌, List, [], ◌∷◌, Option, Some, None, unwrap_or}
use Rattle.std.specs.Option.{option_map}
use Rattle.net_base.specs.declared.address.Mac.{Mac}
use Rattle.net_base.specs.declared.address.Ip4.{Ip4}
use Rattle.net_base.specs.declared.field.Field.{Field}
use Rattle.net_base.specs.declared.field.FieldId.{FieldId}
use Rattle.net_base.specs.declared.field.FieldId.TheVariants.{VlanVid}
use Rattle.net_base.specs.Address.{mac_value}
use Rattle.net_base.specs.AddressReading.{spelled_mac, ip4_of, cut_at}
use Rattle.net_base.specs.Field.{exact, prefix_in}
use Rattle.net_base.specs.FieldId.{bits_of}
use Rattle.conf_types.specs.declared.address.Ip.{Ip}
use Rattle.conf_types.specs.declared.address.Net.{Net}
use Rattle.conf_types.specs.Families.{ip_value, width_of, address_of, len_of}
use Rattle.yaml_tree.specs.declared.tree.Pair.{Pair}
use Rattle.yaml_tree.specs.declared.tree.Tree.{Tree, out-Tree}
use Rattle.yaml_tree.specs.declared.tree.Tree.TheOpen.{Tree-F}
use Rattle.yaml_tree.specs.declared.tree.Tree.TheOpen as tree
use Rattle.conf_shape.specs.declared.raw.RawField.{RawField}
use Rattle.conf_shape.specs.Addresses.{width_written, ip4_with, net4_with, ip_in, net_in}
use Rattle.conf_shape.specs.Scalars.{within}
use Rattle.conf_shape.specs.Sections.{key_text, spells}

-- ---- addresses; what isn't one gives zeros, which stand for nothing

abbrev pub mac_or_zero : Option (List ℕ) → Mac
mac_or_zero None = record { 0 = 0 ∷ 0 ∷ 0 ∷ 0 ∷ 0 ∷ 0 ∷ [] }
mac_or_zero (Some bytes) = record { 0 = bytes }

abbrev pub mac_of : List ℕ → Mac
mac_of text = mac_or_zero (spelled_mac text)

abbrev pub ip_or_zero : Option Ip → Ip
ip_or_zero None = ip4_with 0
ip_or_zero (Some ip) = ip

abbrev pub ip_of : List ℕ → Ip
ip_of text = ip_or_zero (ip_in (width_written text) text)

abbrev pub net_or_zero : Option Net → Net
net_or_zero None = net4_with (0, 0)
net_or_zero (Some net) = net

abbrev pub net_of : List ℕ → Net
net_of text = net_or_zero (net_in (width_written text) text)

-- what a speaker of BGP is called
abbrev pub identifier_of : List ℕ → Ip4
identifier_of text = record { 0 = unwrap_or (ip4_of text) 0 }

-- ---- the fields of a rule

-- of a VLAN, the bit that says that there is a tag (OpenFlow 1.3, 7.2.3.7)
abbrev pub tag_bit : FieldId → ℕ
tag_bit VlanVid = 0x1000
tag_bit _ = 0

abbrev pub number_field : FieldId → ℕ → Field
number_field id n = exact id (tag_bit id + n)

-- the number of an Ethernet address
abbrev pub mac_number : Option (List ℕ) → Option ℕ
mac_number None = None
mac_number (Some bytes) = Some (mac_value (record { 0 = bytes }))

-- a mask of zero leaves the field out
abbrev pub masked : FieldId → Option ℕ → Option ℕ → Option Field
masked id (Some value) (Some mask) = if mask == 0 then None else Some (record { id = id; value = value; mask = mask })
masked id _ _ = None

abbrev pub mac_parts : FieldId → List ℕ → Option (List ℕ × List ℕ) → Option Field
mac_parts id text None = option_map (exact id) (mac_number (spelled_mac text))
mac_parts id text (Some parts) = masked id (mac_number (spelled_mac parts.0)) (mac_number (spelled_mac parts.1))

abbrev pub mac_field : FieldId → List ℕ → Option Field
mac_field id text = mac_parts id text (cut_at 47 text)

-- the field of a network's prefix
abbrev pub prefix_of : FieldId → Net → Field
prefix_of id net = prefix_in (width_of (address_of net)) id (ip_value (address_of net)) (len_of net)

-- a length of 0 leaves the field out
abbrev pub ip_field : FieldId → Option Ip → Option Net → Option Field
ip_field id (Some ip) net = Some (exact id (ip_value ip))
ip_field id None None = None
ip_field id None (Some net) = if len_of net == 0 then None else Some (prefix_of id net)

-- an Ethernet address has 48 bits; one of IP is of the family with the field's bits
abbrev pub text_field : FieldId → List ℕ → Option Field
text_field id text =
    if bits_of id == 48 then mac_field id text
    else ip_field id (ip_in (bits_of id) text) (net_in (bits_of id) text)

abbrev pub field_in : FieldId → Tree-F Tree Pair → Option Field
field_in id (tree.Int n) = option_map (number_field id) (within 0 0xffff n)
field_in id (tree.Text text) = text_field id text
field_in id _ = None

abbrev pub field_of : FieldId → Tree → Option Field
field_of id t = field_in id (out-Tree t)

-- the entry of a field, in any of its spellings
abbrev pub spelled_at : List (List ℕ × List ℕ) → List ℕ → List Pair → Option Pair
spelled_at spellings name [] = None
spelled_at spellings name (p ∷ ps) = if spells spellings name p.key then Some p else spelled_at spellings name ps

abbrev pub raw_field_or : List ℕ → Option Field → Option RawField
raw_field_or key None = None
raw_field_or key (Some field) = Some (record { key = key; field = field })

-- a field under the key as it is spelled
abbrev pub raw_field : FieldId → Option Pair → Option RawField
raw_field id None = None
raw_field id (Some p) = raw_field_or (key_text p.key) (field_of id p.value)

abbrev pub ahead : Option RawField → List RawField → List RawField
ahead None fields = fields
ahead (Some field) fields = field ∷ fields

-- the fields of a rule, in the order of the match keys
abbrev pub fields_by : List (List ℕ × List ℕ) → List (List ℕ × FieldId) → List Pair → List RawField
fields_by spellings [] pairs = []
fields_by spellings (k ∷ ks) pairs = ahead (raw_field k.1 (spelled_at spellings k.0 pairs)) (fields_by spellings ks pairs)
