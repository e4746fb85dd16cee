-- What a value of a raw configuration says of the tree that it was read from.
use Rattle.std.specs.Prelude.{◌≡◌, ℕ, ◌^◌, ◌<◌, pos, Bool, if◌then◌else◌, List, [], ◌∷◌, Option, MatchOption, IfSome, IsSomeAnd}
use Rattle.std.specs.Fmt.{signed_decimal}
use Rattle.net_base.specs.declared.address.Ip4.{Ip4}
use Rattle.net_base.specs.declared.address.Mac.{Mac}
use Rattle.net_base.specs.Address.{SpellsMac, ip4_text, net4_text}
use Rattle.net_base.specs.Address6.{SpellsIp6, SpellsNet6}
use Rattle.yaml_tree.specs.declared.tree.Key.{Key}
use Rattle.yaml_tree.specs.declared.tree.Key.TheVariants as key
use Rattle.yaml_tree.specs.declared.tree.Pair.{Pair}
use Rattle.yaml_tree.specs.declared.tree.Tree.{Tree, out-Tree}
use Rattle.yaml_tree.specs.declared.tree.Tree.TheOpen.{Tree-F}
use Rattle.yaml_tree.specs.declared.tree.Tree.TheOpen as tree
use Rattle.conf_types.specs.declared.address.Ip.{Ip}
use Rattle.conf_types.specs.declared.address.Ip.TheVariants as ip
use Rattle.conf_types.specs.declared.address.Net.{Net}
use Rattle.conf_types.specs.declared.address.Net.TheVariants as net
use Rattle.conf_types.specs.declared.acl.PortRef.{PortRef}
use Rattle.conf_types.specs.declared.acl.PortRef.TheVariants as port_ref
use Rattle.conf_types.specs.Families.{width_of, address_of}
use Rattle.conf_shape.specs.declared.raw.OneOrList.{OneOrList}
use Rattle.conf_shape.specs.declared.raw.OneOrList.TheVariants as several
use Rattle.conf_shape.specs.declared.raw.VlanRef.{VlanRef}
use Rattle.conf_shape.specs.declared.raw.VlanRef.TheVariants as vlan_ref
use Rattle.conf_shape.specs.Addresses.{width_written}
use Rattle.conf_shape.specs.Reads.{value_at}

-- ---- a value alone

abbrev pub IsFlag : Tree → Bool → Type 0
IsFlag t flag = out-Tree t ≡ tree.Bool flag

abbrev pub IsNumber : Tree → ℕ → Type 0
IsNumber t n = out-Tree t ≡ tree.Int (pos n)

abbrev pub IsText : Tree → List ℕ → Type 0
IsText t text = out-Tree t ≡ tree.Text text

-- a flag, or 1 or 0
abbrev pub IsPermission : Tree-F Tree Pair → Bool → Type 0
IsPermission (tree.Bool flag) allow = flag ≡ allow
IsPermission (tree.Int n) allow = n ≡ (if allow then pos 1 else pos 0)
IsPermission _ allow = ⊥

-- a text, or a whole number by its digits
abbrev pub IsLabelOf : Tree-F Tree Pair → List ℕ → Type 0
IsLabelOf (tree.Text text) name = text ≡ name
IsLabelOf (tree.Int n) name = signed_decimal n ≡ name
IsLabelOf _ name = ⊥

-- a VLAN by its number or its name
abbrev pub IsVlanOf : Tree-F Tree Pair → VlanRef → Type 0
IsVlanOf (tree.Int n) (vlan_ref.Vid vid) = n ≡ pos vid
IsVlanOf (tree.Text text) (vlan_ref.Name name) = text ≡ name
IsVlanOf _ _ = ⊥

-- a port by its number or its name
abbrev pub IsPortOf : Tree-F Tree Pair → PortRef → Type 0
IsPortOf (tree.Int n) (port_ref.No number) = n ≡ pos number
IsPortOf (tree.Text text) (port_ref.Name name) = text ≡ name
IsPortOf _ _ = ⊥

abbrev pub IsMac : Tree → Mac → Type 0
IsMac t mac = (text : List ℕ) × IsText t text × SpellsMac text mac.0

-- an IPv4 address, by which a speaker of BGP is called
abbrev pub IsIdentifier : Tree → Ip4 → Type 0
IsIdentifier t ip = IsText t (ip4_text ip.0) × (ip.0 < 2 ^ 32)

-- the text spells the address, or the network, in its family
abbrev pub SpellsIp : List ℕ → Ip → Type 0
SpellsIp text (ip.V4 a) = (text ≡ ip4_text a.0) × (a.0 < 2 ^ 32)
SpellsIp text (ip.V6 a) = SpellsIp6 text a.0

abbrev pub SpellsNet : List ℕ → Net → Type 0
SpellsNet text (net.V4 n) = (text ≡ net4_text n.ip.0 n.len) × (n.ip.0 < 2 ^ 32)
SpellsNet text (net.V6 n) = SpellsNet6 text n.ip.0 n.len

-- a text with a colon is read as IPv6, and any other as IPv4
pub record IsAddress (t : Tree) (ip : Ip) : Type 0 where
  pub text : List ℕ
  pub is : IsText t text
  pub family : width_of ip ≡ width_written text
  pub spelled : SpellsIp text ip

pub record IsNetwork (t : Tree) (net : Net) : Type 0 where
  pub text : List ℕ
  pub is : IsText t text
  pub family : width_of (address_of net) ≡ width_written text
  pub spelled : SpellsNet text net

-- ---- lists and maps

-- the two lists agree, item by item
abbrev pub Each : {A B : Type 0} → (A → B → Type 0) → List A → List B → Type 0
Each P [] [] = Unit {0}
Each P (x ∷ xs) (y ∷ ys) = P x y × Each P xs ys
Each P _ _ = ⊥

abbrev pub IsList : {A : Type 0} → (Tree → A → Type 0) → Tree → List A → Type 0
IsList P t xs = (items : List Tree) × (out-Tree t ≡ tree.List items) × Each P items xs

abbrev pub IsOneOrList : {A : Type 0} → (Tree → A → Type 0) → Tree → OneOrList A → Type 0
IsOneOrList P t (several.One x) = P t x
IsOneOrList P t (several.List xs) = IsList P t xs

-- nothing stands for a map with no entry
abbrev pub HasEntries : Tree-F Tree Pair → List Pair → Type 0
HasEntries (tree.Map pairs) entries = pairs ≡ entries
HasEntries tree.Null entries = entries ≡ []
HasEntries _ entries = ⊥

abbrev pub IsMap : {A : Type 0} → (List Pair → A → Type 0) → Tree → A → Type 0
IsMap P t x = (pairs : List Pair) × HasEntries (out-Tree t) pairs × P pairs x

-- maps by their names or numbers
abbrev pub AreMaps : {A : Type 0} → (Key → List Pair → A → Type 0) → List Pair → List A → Type 0
AreMaps P pairs xs = Each (λ p x. IsMap (P p.key) p.value x) pairs xs

-- ---- keys

-- what is written under a key, and what stands where it isn't written
abbrev pub Given : List ℕ → List Pair → Type 0 → (Tree → Type 0) → Type 0
Given name pairs default written = MatchOption (value_at name pairs) default written

-- what is written under a key that is always written
abbrev pub Needed : List ℕ → List Pair → (Tree → Type 0) → Type 0
Needed name pairs written = IsSomeAnd (value_at name pairs) written

-- the number of an interface or a VLAN is its key, and what is written says the same; or else what is written
abbrev pub IsNumbered : Key → Option Tree → ℕ → Type 0
IsNumbered (key.Int n) given number = (n ≡ pos number) × IfSome given (λ t. IsNumber t number)
IsNumbered (key.Text name) given number = IsSomeAnd given (λ t. IsNumber t number)
