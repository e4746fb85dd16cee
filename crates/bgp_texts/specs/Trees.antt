-- A document whose VLAN has further routes.
use Rattle.std.specs.Prelude.{ℕ, pos, Bool, false, ◌&&◌, if◌then◌else◌, List, [], ◌∷◌, ◌++◌, codes, map, Option}
use Rattle.std.specs.List.{find, list_any}
use Rattle.std.specs.Option.{option_map, option_map_or}
use Rattle.std.specs.Ordering.{int_eq}
use Rattle.yaml_tree.specs.declared.tree.Key.{Key}
use Rattle.yaml_tree.specs.declared.tree.Pair.{Pair}
use Rattle.yaml_tree.specs.declared.tree.Key.TheVariants as keys
use Rattle.yaml_tree.specs.declared.tree.Tree.{Tree, out-Tree}
use Rattle.yaml_tree.specs.declared.tree.Tree.TheOpen.{Tree-F}
use Rattle.yaml_tree.specs.declared.tree.Tree.TheOpen as open_tree
use Rattle.yaml_tree.specs.declared.tree.Tree.TheVariants as tree
use Rattle.yaml_subset.specs.Entries.{key_eq}
use Rattle.conf_shape.specs.Reads.{value_at, entries_of, entries_at, items_of}
use Rattle.conf_shape.specs.Sections.{is_key}
use Rattle.bgp_routes.specs.declared.routes.BgpRoute.{BgpRoute}
use Rattle.bgp_texts.specs.Items.{entry, route_items}

-- ---- the VLAN of a number

abbrev pub is_number_in : ℕ → Tree-F Tree Pair → Bool
is_number_in vid (open_tree.Int n) = int_eq n (pos vid)
is_number_in vid _ = false

abbrev pub is_number : ℕ → Tree → Bool
is_number vid t = is_number_in vid (out-Tree t)

-- its key is the number; or a name, and `vid` is
abbrev pub has_number : ℕ → Key → List Pair → Bool
has_number vid (keys.Int n) pairs = int_eq n (pos vid)
has_number vid (keys.Text name) pairs = option_map_or (is_number vid) (value_at (codes "vid") pairs) false

abbrev pub is_of_vlan : ℕ → Pair → Bool
is_of_vlan vid p = has_number vid p.key (entries_of p.value)

-- the key of the VLAN in the document
abbrev pub vlan_key : ℕ → Tree → Option Key
vlan_key vid t = option_map (λ p. p.key) (find (is_of_vlan vid) (entries_at (codes "vlans") (entries_of t)))

-- ---- the entries of the VLAN

abbrev pub is_routes : Pair → Bool
is_routes p = is_key (codes "routes") p.key

-- the list of its routes is longer
abbrev pub longer : List Tree → Pair → Pair
longer items p = if is_routes p then record { key = p.key; value = tree.List (items_of p.value ++ items) } else p

abbrev pub has_routes : List Pair → Bool
has_routes pairs = list_any is_routes pairs

-- where it has no such list, one stands behind its other entries
abbrev pub with_items : List Tree → List Pair → List Pair
with_items items pairs = if has_routes pairs then map (longer items) pairs else pairs ++ entry (codes "routes") (tree.List items) ∷ []

-- ---- the document

abbrev pub in_vlan : Key → List Tree → Pair → Pair
in_vlan vlan items p = if key_eq p.key vlan then record { key = p.key; value = tree.Map (with_items items (entries_of p.value)) } else p

abbrev pub is_vlans : Pair → Bool
is_vlans p = is_key (codes "vlans") p.key

abbrev pub in_vlans : Key → List Tree → Pair → Pair
in_vlans vlan items p = if is_vlans p then record { key = p.key; value = tree.Map (map (in_vlan vlan items) (entries_of p.value)) } else p

-- the VLAN under this key has these routes behind its own
abbrev pub with_routes : Key → List BgpRoute → Tree → Tree
with_routes vlan routes t = tree.Map (map (in_vlans vlan (route_items routes)) (entries_of t))

abbrev pub has_entry : Key → List Pair → Bool
has_entry key pairs = list_any (λ p. key_eq p.key key) pairs

-- the document has the VLAN
abbrev pub has_vlan : Key → Tree → Bool
has_vlan vlan t = list_any (λ p. is_vlans p && has_entry vlan (entries_of p.value)) (entries_of t)
