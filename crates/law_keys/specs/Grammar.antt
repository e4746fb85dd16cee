-- Documents that are right by their keys.
use Rattle.std.specs.Prelude.{◌≡◌, ◌==◌, ℕ, ◌^◌, ◌%◌, ◌<◌, ◌≤◌, ◌⊎◌, ℤ, pos, if◌then◌else◌, List, [], ◌∷◌, ◌++◌, length, map, codes, slice_index, bit_and, Option, Some, None}
use Rattle.std.specs.List.{AllByRecursion}
use Rattle.net_base.specs.Address.{SpellsMac, ip4_text}
use Rattle.yaml_tree.specs.declared.tree.Key.{Key}
use Rattle.yaml_tree.specs.declared.tree.Key.TheVariants as key
use Rattle.yaml_tree.specs.declared.tree.Pair.{Pair}
use Rattle.yaml_tree.specs.declared.tree.Tree.{Tree, out-Tree}
use Rattle.yaml_tree.specs.declared.tree.Tree.TheOpen.{Tree-F}
use Rattle.yaml_tree.specs.declared.tree.Tree.TheOpen as tree
use Rattle.yaml_tree.specs.declared.tree.Tree.TheVariants as trees
use Rattle.conf_types.specs.declared.address.Ip.{Ip}
use Rattle.conf_types.specs.declared.address.Net.{Net}
use Rattle.conf_types.specs.Families.{ipv4, ipv6, family_of, width_of, address_of, len_of}
use Rattle.conf_types.specs.Lists.{EachBefore}
use Rattle.conf_types.specs.Networks.{HasNoHostBits}
use Rattle.conf_shape.specs.declared.kinds.Kind.{Kind}
use Rattle.conf_shape.specs.declared.kinds.Kind.TheVariants.{One, Several, OneOrSeveral, Given, Map, Maps, MapOrMaps}
use Rattle.conf_shape.specs.declared.kinds.MapKind.{MapKind}
use Rattle.conf_shape.specs.declared.kinds.MapKind.TheVariants.{Top, Datapaths, Datapath, Interfaces, Interface, Vlans, Vlan, Acls, RuleItem, Routers, Router}
use Rattle.conf_shape.specs.declared.kinds.Need.{Need}
use Rattle.conf_shape.specs.declared.kinds.Need.TheVariants.{Always, UnlessNumbered, UnlessBgp}
use Rattle.conf_shape.specs.declared.kinds.Scalar.{Scalar}
use Rattle.conf_shape.specs.declared.kinds.Scalar.TheVariants.{Flag, Number, Name, Words, Label, Reference, Permission, NoEffect, StationMac, MaskedMac, Vip, Destination, Gateway, Prefix, Address, Identifier, Passive}
use Rattle.conf_shape.specs.Sections.{key_text}
use Rattle.law_checks.specs.Values.{SpellsIp, SpellsNet}
use Rattle.law_keys.specs.Tables.{Line, lines, spellings}

-- it is one of the list
abbrev pub IsOneOf : {A : Type 0} → List A → A → Type 0
IsOneOf [] y = ⊥
IsOneOf (x ∷ xs) y = (x ≡ y) ⊎ IsOneOf xs y

-- ---- a flag, a whole number, a text

abbrev pub IsFlag : Tree-F Tree Pair → Type 0
IsFlag (tree.Bool flag) = Unit {0}
IsFlag _ = ⊥

abbrev pub IsNumberAnd : (ℤ → Type 0) → Tree-F Tree Pair → Type 0
IsNumberAnd P (tree.Int n) = P n
IsNumberAnd P _ = ⊥

abbrev pub IsTextAnd : (List ℕ → Type 0) → Tree-F Tree Pair → Type 0
IsTextAnd P (tree.Text text) = P text
IsTextAnd P _ = ⊥

abbrev pub IsNumber : Tree-F Tree Pair → Type 0
IsNumber x = IsNumberAnd (λ n. Unit {0}) x

abbrev pub IsText : Tree-F Tree Pair → Type 0
IsText x = IsTextAnd (λ text. Unit {0}) x

-- ---- ranges of numbers and of lengths

abbrev pub IsFromTo : ℕ → ℕ → ℤ → Type 0
IsFromTo low high z = (n : ℕ) × (z ≡ pos n) × (low ≤ n) × (n ≤ high)

abbrev pub IsName : List ℕ → Type 0
IsName text = (1 ≤ length text) × (length text ≤ 255)

-- ---- texts that spell addresses and networks

-- that of one station: no group's, and not zero (IEEE 802, 8.2)
abbrev pub IsStation : List ℕ → Type 0
IsStation mac = (slice_index mac 0 % 2 ≡ 1 → ⊥) × (AllByRecursion (λ byte. byte ≡ 0) mac → ⊥)

abbrev pub SpellsStation : List ℕ → Type 0
SpellsStation text = (mac : List ℕ) × SpellsMac text mac × IsStation mac

-- no bit of the value stands outside the mask
abbrev pub IsInside : List ℕ → List ℕ → Type 0
IsInside (v ∷ vs) (m ∷ ms) = (bit_and v m ≡ v) × IsInside vs ms
IsInside _ _ = Unit {0}

-- a value and a mask around a slash
pub record SpellsMasked (text : List ℕ) : Type 0 where
  pub before : List ℕ
  pub behind : List ℕ
  pub value : List ℕ
  pub mask : List ℕ
  pub is : text ≡ before ++ 47 ∷ behind
  pub value_spelled : SpellsMac before value
  pub mask_spelled : SpellsMac behind mask
  pub inside : IsInside value mask

abbrev pub SpellsMacOrMasked : List ℕ → Type 0
SpellsMacOrMasked text = ((mac : List ℕ) × SpellsMac text mac) ⊎ SpellsMasked text

-- an address of IPv4 or of IPv6
abbrev pub SpellsAddress : List ℕ → Type 0
SpellsAddress text = (ip : Ip) × SpellsIp text ip

-- an address of IPv4 that isn't zero
abbrev pub SpellsIdentifier : List ℕ → Type 0
SpellsIdentifier text = (ip : ℕ) × (1 ≤ ip) × (ip < 2 ^ 32) × (text ≡ ip4_text ip)

-- an address with the length of its network, which leaves room for neighbours
pub record SpellsVip (text : List ℕ) : Type 0 where
  pub net : Net
  pub is : SpellsNet text net
  pub least : 1 ≤ len_of net
  pub most : len_of net ≤ (family_of (address_of net)).most_vip_len

-- a network, with no bit behind its length
pub record SpellsNetwork (text : List ℕ) : Type 0 where
  pub net : Net
  pub is : SpellsNet text net
  pub whole : HasNoHostBits net

-- in a match, the field says of which family an address is: of 128 bits it is one of IPv6
abbrev pub family_bits : ℕ → ℕ
family_bits width = if width == ipv6.width then ipv6.width else ipv4.width

abbrev pub SpellsAddressOf : ℕ → List ℕ → Type 0
SpellsAddressOf width text = (ip : Ip) × SpellsIp text ip × (width_of ip ≡ family_bits width)

abbrev pub SpellsNetworkOf : ℕ → List ℕ → Type 0
SpellsNetworkOf width text = (n : SpellsNetwork text) × (width_of (address_of n.net) ≡ family_bits width)

-- ---- what a value has to be that is no list and no map

abbrev pub FitsScalar : Scalar → Tree-F Tree Pair → Type 0
FitsScalar Flag x = IsFlag x
FitsScalar (Number low high) x = IsNumberAnd (IsFromTo low high) x
FitsScalar Name x = IsTextAnd IsName x
FitsScalar Words x = IsText x
FitsScalar Label x = IsText x ⊎ IsNumber x
FitsScalar (Reference low high) x = IsText x ⊎ IsNumberAnd (IsFromTo low high) x
FitsScalar Permission x = IsFlag x ⊎ IsNumberAnd (IsFromTo 0 1) x
FitsScalar NoEffect x = IsFlag x ⊎ (IsNumber x ⊎ IsText x)
FitsScalar StationMac x = IsTextAnd SpellsStation x
FitsScalar MaskedMac x = IsTextAnd SpellsMacOrMasked x
FitsScalar Vip x = IsTextAnd SpellsVip x
FitsScalar Destination x = IsTextAnd SpellsNetwork x
FitsScalar Gateway x = IsTextAnd SpellsAddress x
FitsScalar (Prefix width) x = IsTextAnd (λ text. SpellsAddressOf width text ⊎ SpellsNetworkOf width text) x
FitsScalar (Address width) x = IsTextAnd (SpellsAddressOf width) x
FitsScalar Identifier x = IsTextAnd SpellsIdentifier x
FitsScalar Passive x = IsTextAnd (λ text. text ≡ codes "passive") x

-- ---- what may stand as one value, as an item of a list, as a map

abbrev pub scalar_of : Kind → Option Scalar
scalar_of (One s) = Some s
scalar_of (OneOrSeveral s) = Some s
scalar_of _ = None

abbrev pub item_of : Kind → Option Kind
item_of (Several s) = Some (One s)
item_of (OneOrSeveral s) = Some (One s)
item_of (Maps m) = Some (Map m)
item_of (MapOrMaps m) = Some (Map m)
item_of _ = None

abbrev pub map_of : Kind → Option MapKind
map_of (Map m) = Some m
map_of (MapOrMaps m) = Some m
map_of _ = None

-- where nothing may stand for a map with no entry
abbrev pub MayBeNothing : MapKind → Type 0
MayBeNothing Top = Unit {0}
MayBeNothing (Interface number) = Unit {0}
MayBeNothing (Vlan number) = Unit {0}
MayBeNothing Vlans = Unit {0}
MayBeNothing Acls = Unit {0}
MayBeNothing Routers = Unit {0}
MayBeNothing _ = ⊥

-- ---- keys

-- the number that the key of an interface or a VLAN gives
abbrev pub own_number : MapKind → Option ℕ
own_number (Interface number) = number
own_number (Vlan number) = number
own_number _ = None

-- it is the only one that may be given again
abbrev pub own_kind : Option ℕ → Kind → Kind
own_kind None (Given low high) = One (Number low high)
own_kind (Some n) (Given low high) = One (Number n n)
own_kind number kind = kind

-- the key is that of the line, or another spelling of it
abbrev pub IsKeyOf : MapKind → Line → Key → Type 0
IsKeyOf m l (key.Text text) = (text ≡ l.key) ⊎ IsOneOf (spellings m) (text, l.key)
IsKeyOf m l (key.Int n) = ⊥

-- a line of the map has the key
pub record HasLine (m : MapKind) (k : Key) (kind : Kind) : Type 0 where
  pub at : Line
  pub listed : IsOneOf (lines m) at
  pub spelled : IsKeyOf m at k
  pub is : kind ≡ own_kind (own_number m) at.kind

-- a number in a range, or a name
abbrev pub IsNumbered : ℕ → ℕ → (Option ℕ → MapKind) → Key → Kind → Type 0
IsNumbered low high inner (key.Int z) kind = (n : ℕ) × (z ≡ pos n) × (low ≤ n) × (n ≤ high) × (kind ≡ Map (inner (Some n)))
IsNumbered low high inner (key.Text text) kind = IsName text × (kind ≡ Map (inner None))

-- what stands under a key of a map is to be of this kind
abbrev pub Under : MapKind → Key → Kind → Type 0
Under Datapaths k kind = IsName (key_text k) × (kind ≡ Map Datapath)
Under Acls k kind = kind ≡ Maps RuleItem
Under Routers k kind = kind ≡ Map Router
Under Interfaces k kind = IsNumbered 1 4294967040 Interface k kind
Under Vlans k kind = IsNumbered 1 4094 Vlan k kind
Under m k kind = HasLine m k kind

-- two keys of a map are the same: names are so by their texts, others by their line; of interfaces and
-- VLANs the numbers and names are compared, and not the keys
abbrev pub AreSame : MapKind → Key → Key → Type 0
AreSame Datapaths j k = key_text j ≡ key_text k
AreSame Acls j k = key_text j ≡ key_text k
AreSame Routers j k = key_text j ≡ key_text k
AreSame Interfaces j k = ⊥
AreSame Vlans j k = ⊥
AreSame m j k = (l : Line) × IsOneOf (lines m) l × IsKeyOf m l j × IsKeyOf m l k

-- a key has to be there always, where the map's own key gives no number, or where `bgp` isn't among the keys
abbrev pub IsNeeded : Option ℕ → List Key → Need → Type 0
IsNeeded number keys Always = Unit {0}
IsNeeded None keys UnlessNumbered = Unit {0}
IsNeeded number keys UnlessBgp = IsOneOf keys (key.Text (codes "bgp")) → ⊥
IsNeeded number keys _ = ⊥

-- each key that has to be there is
abbrev pub IsWhole : MapKind → List Key → Type 0
IsWhole m keys = AllByRecursion (λ l. IsNeeded (own_number m) keys l.need → IsOneOf keys (key.Text l.key)) (lines m)

-- ---- the grammar

mutual
  -- the tree is a value of this kind
  pub data Fits : Kind → Tree → Type 0 where
    alone : (kind : Kind) (s : Scalar) (t : Tree) → scalar_of kind ≡ Some s → FitsScalar s (out-Tree t) → Fits kind t
    items : (kind one : Kind) (ts : List Tree) → item_of kind ≡ Some one → AllFit one ts → Fits kind (trees.List ts)
    entries : (kind : Kind) (m : MapKind) (ps : List Pair) → map_of kind ≡ Some m
        → EntriesFit m ps → EachBefore (λ p q. AreSame m p.key q.key → ⊥) ps → IsWhole m (map (λ p. p.key) ps) → Fits kind (trees.Map ps)
    nothing : (kind : Kind) (m : MapKind) → map_of kind ≡ Some m → MayBeNothing m → IsWhole m [] → Fits kind trees.Null

  -- each item is
  pub data AllFit : Kind → List Tree → Type 0 where
    no_items : (kind : Kind) → AllFit kind []
    item : (kind : Kind) (t : Tree) (ts : List Tree) → Fits kind t → AllFit kind ts → AllFit kind (t ∷ ts)

  -- each entry has a key of the map, with a value of its kind
  pub data EntriesFit : MapKind → List Pair → Type 0 where
    no_entries : (m : MapKind) → EntriesFit m []
    entry : (m : MapKind) (kind : Kind) (p : Pair) (ps : List Pair) → Under m p.key kind → Fits kind p.value → EntriesFit m ps → EntriesFit m (p ∷ ps)

abbrev pub IsDocument : Tree → Type 0
IsDocument t = Fits (Map Top) t
