-- What of a file is of a wrong type: its document, an include list, a section of an included file.
use Rattle.std.specs.Prelude.{ℕ, ◌+◌, ◌&&◌, ◌||◌, not, Bool, true, false, if◌then◌else◌, List, [], ◌∷◌, ◌++◌, codes, Option, Some, None}
use Rattle.std.specs.Option.{option_map, option_map_or, option_or}
use Rattle.std.specs.Fmt.{decimal}
use Rattle.yaml_tree.specs.declared.tree.Key.{Key}
use Rattle.yaml_tree.specs.declared.tree.Pair.{Pair}
use Rattle.yaml_tree.specs.declared.tree.Tree.{Tree, out-Tree}
use Rattle.yaml_tree.specs.declared.tree.Tree.TheOpen.{Tree-F}
use Rattle.yaml_tree.specs.declared.tree.Tree.TheOpen as tree
use Rattle.yaml_subset.specs.Entries.{key_eq}
use Rattle.conf_shape.specs.Sections.{is_key, key_text}
use Rattle.conf_gather.specs.Includes.{is_include_key}

-- what stands under a key
abbrev pub value_of : Key → List Pair → Option Tree
value_of key [] = None
value_of key (p ∷ ps) = if key_eq p.key key then Some p.value else value_of key ps

-- the keys whose maps are joined
abbrev pub is_section : Key → Bool
is_section key = is_key (codes "vlans") key || is_key (codes "dps") key || is_key (codes "acls") key || is_key (codes "routers") key

-- a map, or where it may, nothing, which stands for a map with no entry
abbrev pub is_map_in : Bool → Tree-F Tree Pair → Bool
is_map_in may_be_null tree.Null = may_be_null
is_map_in may_be_null (tree.Map pairs) = true
is_map_in may_be_null _ = false

abbrev pub is_document : Tree → Bool
is_document t = is_map_in true (out-Tree t)

-- nothing stands for no datapath
abbrev pub fits : Key → Tree → Bool
fits key t = is_map_in (not (is_key (codes "dps") key)) (out-Tree t)

-- a section fits, and so does what was gathered of it
abbrev pub section_fits : List Pair → Pair → Bool
section_fits gathered p = fits p.key p.value && option_map_or (fits p.key) (value_of p.key gathered) true

abbrev pub is_text_in : Tree-F Tree Pair → Bool
is_text_in (tree.Text text) = true
is_text_in _ = false

-- the place of the first item that is no text
abbrev pub place_of_no_text : ℕ → List Tree → Option ℕ
place_of_no_text n [] = None
place_of_no_text n (t ∷ ts) = if is_text_in (out-Tree t) then place_of_no_text (n + 1) ts else Some n

-- where a value isn't a list of texts
abbrev pub no_names_in : (path : List ℕ) → Tree-F Tree Pair → Option (List ℕ)
no_names_in path (tree.List items) = option_map (λ n. path ++ 46 ∷ decimal n) (place_of_no_text 0 items)
no_names_in path _ = Some path

abbrev pub no_names : (path : List ℕ) → Tree → Option (List ℕ)
no_names path t = no_names_in path (out-Tree t)

-- where an entry is of a wrong type, the entries before it being gathered; sections are looked at in included files alone
abbrev pub wrong_entry : (included : Bool) → (gathered : List Pair) → Pair → Option (List ℕ)
wrong_entry included gathered p =
    if is_include_key p.key then no_names (key_text p.key) p.value
    else if included && (is_section p.key && not (section_fits gathered p)) then Some (key_text p.key)
    else None

-- the first such place in the document's order
abbrev pub wrong_entries : (included : Bool) → (gathered : List Pair) → List Pair → Option (List ℕ)
wrong_entries included gathered [] = None
wrong_entries included gathered (p ∷ ps) = option_or (wrong_entry included gathered p) (wrong_entries included gathered ps)
