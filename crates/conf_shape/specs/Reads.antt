-- What stands in a tree of the right shape. Nothing stands for what isn't given, and a tree of another
-- shape gives what nothing gives.
use Rattle.std.specs.Prelude.{ℕ, Bool, true, false, ◌-◌, ◌^◌, ◌==◌, if◌then◌else◌, List, [], ◌∷◌, map, Option, Some, None, option_and_then, unwrap_or}
use Rattle.std.specs.Option.{option_map, option_map_or}
use Rattle.std.specs.Fmt.{signed_decimal}
use Rattle.yaml_tree.specs.declared.tree.Key.{Key}
use Rattle.yaml_tree.specs.declared.tree.Key.TheVariants as key
use Rattle.yaml_tree.specs.declared.tree.Pair.{Pair}
use Rattle.yaml_tree.specs.declared.tree.Tree.{Tree, out-Tree}
use Rattle.yaml_tree.specs.declared.tree.Tree.TheOpen.{Tree-F}
use Rattle.yaml_tree.specs.declared.tree.Tree.TheOpen as tree
use Rattle.conf_types.specs.declared.acl.PortRef.{PortRef}
use Rattle.conf_types.specs.declared.acl.PortRef.TheVariants as port_refs
use Rattle.conf_shape.specs.declared.kinds.TheConstants.{MOST_VID, MOST_PORT_NO}
use Rattle.conf_shape.specs.declared.kinds.MapKind.{MapKind}
use Rattle.conf_shape.specs.declared.raw.OneOrList.{OneOrList}
use Rattle.conf_shape.specs.declared.raw.OneOrList.TheVariants as one_or_list
use Rattle.conf_shape.specs.declared.raw.VlanRef.{VlanRef}
use Rattle.conf_shape.specs.declared.raw.VlanRef.TheVariants as vlan_refs
use Rattle.conf_shape.specs.Keys.{KeyRow, KeyDefault, Nothing, On, Count, Spelled, OwnKey, OwnName, keys_of}
use Rattle.conf_shape.specs.Scalars.{within}
use Rattle.conf_shape.specs.Sections.{is_key, row_at}

-- what stands under a key
abbrev pub value_at : List ℕ → List Pair → Option Tree
value_at name [] = None
value_at name (p ∷ ps) = if is_key name p.key then Some p.value else value_at name ps

-- ---- a value by its form

abbrev pub flag_in : Tree-F Tree Pair → Option Bool
flag_in (tree.Bool flag) = Some flag
flag_in _ = None

-- a flag, or 1 or 0
abbrev pub permission_in : Tree-F Tree Pair → Option Bool
permission_in (tree.Bool flag) = Some flag
permission_in (tree.Int n) = option_map (λ k. k == 1) (within 0 1 n)
permission_in _ = None

abbrev pub number_in : ℕ → ℕ → Tree-F Tree Pair → Option ℕ
number_in low high (tree.Int n) = within low high n
number_in low high _ = None

abbrev pub text_in : Tree-F Tree Pair → Option (List ℕ)
text_in (tree.Text text) = Some text
text_in _ = None

abbrev pub items_in : Tree-F Tree Pair → List Tree
items_in (tree.List items) = items
items_in _ = []

abbrev pub entries_in : Tree-F Tree Pair → List Pair
entries_in (tree.Map pairs) = pairs
entries_in _ = []

abbrev pub flag_of : Tree → Option Bool
flag_of t = flag_in (out-Tree t)

abbrev pub permission_of : Tree → Option Bool
permission_of t = permission_in (out-Tree t)

abbrev pub number_of : ℕ → ℕ → Tree → Option ℕ
number_of low high t = number_in low high (out-Tree t)

abbrev pub text_of : Tree → Option (List ℕ)
text_of t = text_in (out-Tree t)

abbrev pub words_of : Tree → List ℕ
words_of t = unwrap_or (text_of t) []

abbrev pub items_of : Tree → List Tree
items_of t = items_in (out-Tree t)

abbrev pub entries_of : Tree → List Pair
entries_of t = entries_in (out-Tree t)

-- one value, or a list of them
abbrev pub one_or_list_in : {A : Type 0} → (Tree → A) → A → Tree-F Tree Pair → OneOrList A
one_or_list_in each one (tree.List items) = one_or_list.List (map each items)
one_or_list_in each one _ = one_or_list.One one

abbrev pub one_or_list_of : {A : Type 0} → (Tree → A) → Tree → OneOrList A
one_or_list_of each t = one_or_list_in each (each t) (out-Tree t)

-- ---- a value under a key, which may not be given

abbrev pub words_at : List ℕ → List Pair → List ℕ
words_at name pairs = option_map_or words_of (value_at name pairs) []

abbrev pub entries_at : List ℕ → List Pair → List Pair
entries_at name pairs = option_map_or entries_of (value_at name pairs) []

abbrev pub option_at : {A : Type 0} → (Tree → A) → List ℕ → List Pair → Option A
option_at each name pairs = option_map each (value_at name pairs)

abbrev pub list_at : {A : Type 0} → (Tree → A) → List ℕ → List Pair → List A
list_at each name pairs = map each (option_map_or items_of (value_at name pairs) [])

abbrev pub one_or_list_at : {A : Type 0} → (Tree → A) → List ℕ → List Pair → OneOrList A
one_or_list_at each name pairs = option_map_or (one_or_list_of each) (value_at name pairs) (one_or_list.List [])

-- a number of so many bits, whose range is that of its row
abbrev pub number_under : ℕ → List ℕ → List Pair → Option ℕ
number_under bits name pairs = option_and_then (number_of 0 (2 ^ bits - 1)) (value_at name pairs)

-- ---- what stands where a key isn't given, by the tables

abbrev pub default_in : Option KeyRow → KeyDefault
default_in None = Nothing
default_in (Some r) = r.default

unfoldable pub default_of : MapKind → List ℕ → KeyDefault
default_of m name = default_in (row_at name (keys_of m).rows)

abbrev pub default_flag : KeyDefault → Bool
default_flag On = true
default_flag _ = false

abbrev pub default_number : KeyDefault → ℕ
default_number (Count n) = n
default_number _ = 0

-- where the default is the map's own key or name, that is handed in
abbrev pub default_text : List ℕ → KeyDefault → List ℕ
default_text own (Spelled text) = text
default_text own OwnKey = own
default_text own OwnName = own
default_text own _ = []

abbrev pub flag_at : MapKind → List ℕ → List Pair → Bool
flag_at m name pairs = unwrap_or (option_and_then flag_of (value_at name pairs)) (default_flag (default_of m name))

abbrev pub permission_at : MapKind → List ℕ → List Pair → Bool
permission_at m name pairs = unwrap_or (option_and_then permission_of (value_at name pairs)) (default_flag (default_of m name))

abbrev pub number_at : MapKind → List ℕ → List Pair → ℕ
number_at m name pairs = unwrap_or (number_under 32 name pairs) (default_number (default_of m name))

abbrev pub text_at : MapKind → List ℕ → List ℕ → List Pair → List ℕ
text_at m name own pairs = unwrap_or (option_and_then text_of (value_at name pairs)) (default_text own (default_of m name))

-- ---- names and numbers

-- where an ACL is named, a whole number stands for its digits
abbrev pub label_in : Tree-F Tree Pair → List ℕ
label_in (tree.Text text) = text
label_in (tree.Int n) = signed_decimal n
label_in _ = []

abbrev pub label_of : Tree → List ℕ
label_of t = label_in (out-Tree t)

abbrev pub port_or : List ℕ → Option ℕ → PortRef
port_or name None = port_refs.Name name
port_or name (Some number) = port_refs.No number

-- a port by its number or its name
abbrev pub port_of : Tree → PortRef
port_of t = port_or (label_of t) (number_of 1 MOST_PORT_NO t)

abbrev pub vlan_or : List ℕ → Option ℕ → VlanRef
vlan_or name None = vlan_refs.Name name
vlan_or name (Some number) = vlan_refs.Vid number

-- a VLAN by its number or its name
abbrev pub vlan_of : Tree → VlanRef
vlan_of t = vlan_or (label_of t) (number_of 1 MOST_VID t)

-- the number of a map: its own key, or what it gives where that is a name
abbrev pub own_number : ℕ → ℕ → Key → Option Tree → Option ℕ
own_number low high (key.Int n) given = within low high n
own_number low high (key.Text text) given = option_and_then (number_of low high) given
