-- The faults of a tree, in the order of the document.
use Rattle.std.specs.Prelude.{ℕ, ◌+◌, Bool, true, false, if◌then◌else◌, List, [], ◌∷◌, ◌++◌, map, Option, Some, None, Result, Ok, Err, codes}
use Rattle.std.specs.Option.{option_map}
use Rattle.std.specs.Fmt.{decimal}
use Rattle.yaml_tree.specs.declared.tree.Key.{Key}
use Rattle.yaml_tree.specs.declared.tree.Pair.{Pair}
use Rattle.yaml_tree.specs.declared.tree.Tree.{Tree}
use Rattle.yaml_tree.specs.declared.tree.Tree.TheOpen.{Tree-F, Pair-F}
use Rattle.yaml_tree.specs.declared.tree.Tree.TheOpen as tree
use Rattle.yaml_tree.specs.declared.tree.Tree.TheFolds.{fold-Tree, fold-Pair}
use Rattle.conf_shape.specs.declared.refused.ConfCause.{ConfCause}
use Rattle.conf_shape.specs.declared.refused.ConfCause.TheVariants.{Missing, WrongType}
use Rattle.conf_shape.specs.declared.refused.ConfFault.{ConfFault}
use Rattle.conf_shape.specs.declared.faults.Found.{Found}
use Rattle.conf_shape.specs.declared.kinds.Kind.{Kind}
use Rattle.conf_shape.specs.declared.kinds.Kind.TheVariants.{Map}
use Rattle.conf_shape.specs.declared.kinds.MapKind.{MapKind}
use Rattle.conf_shape.specs.declared.kinds.MapKind.TheVariants.{Top, Interface, Vlans, Vlan, Acls, Routers}
use Rattle.conf_shape.specs.Keys.{KeyRow, keys_of}
use Rattle.conf_shape.specs.Scalars.{flag_cause, number_cause, text_cause, item_kind, map_kind}
use Rattle.conf_shape.specs.Sections.{key_text, number_of, under_key, lacks}

-- a fault at the value itself, or none
abbrev pub here : Option ConfCause → List Found
here None = []
here (Some cause) = record { steps = []; cause = cause } ∷ []

-- behind a key or a place
abbrev pub found_under : List ℕ → Found → Found
found_under step found = record { steps = step ∷ found.steps; cause = found.cause }

abbrev pub under : List ℕ → List Found → List Found
under step faults = map (found_under step) faults

-- the faults of a value, as one of each kind
abbrev pub Faults : Type 0
Faults = Kind → List Found

-- an entry's key, and the faults of its value
abbrev pub Entry : Type 0
Entry = Key × Faults

abbrev pub item_faults : Kind → ℕ → List Faults → List Found
item_faults kind n [] = []
item_faults kind n (item ∷ items) = under (decimal n) (item kind) ++ item_faults kind (n + 1) items

abbrev pub list_faults : Option Kind → List Faults → List Found
list_faults None items = here (Some WrongType)
list_faults (Some kind) items = item_faults kind 0 items

abbrev pub missing_row : List ℕ → Found
missing_row key = record { steps = key ∷ []; cause = Missing }

-- the keys that have to be there and aren't
abbrev pub missing : Option ℕ → List Key → List KeyRow → List Found
missing number keys [] = []
missing number keys (r ∷ rs) = if lacks number keys r then missing_row r.key ∷ missing number keys rs else missing number keys rs

abbrev pub missing_in : MapKind → List Key → List Found
missing_in m keys = missing (number_of m) keys (keys_of m).rows

abbrev pub value_faults : Faults → Result Kind ConfCause → List Found
value_faults value (Err cause) = here (Some cause)
value_faults value (Ok kind) = value kind

-- each entry in its turn, behind those before it, and then what is missing
abbrev pub map_faults : MapKind → List Key → List Entry → List Found
map_faults m earlier [] = missing_in m earlier
map_faults m earlier (e ∷ es) = under (key_text e.0) (value_faults e.1 (under_key m earlier e.0)) ++ map_faults m (earlier ++ e.0 ∷ []) es

abbrev pub in_map : Option MapKind → List Entry → List Found
in_map None entries = here (Some WrongType)
in_map (Some m) entries = map_faults m [] entries

-- where nothing stands for a map with no entry
abbrev pub may_be_null : MapKind → Bool
may_be_null Top = true
may_be_null (Interface number) = true
may_be_null (Vlan number) = true
may_be_null Vlans = true
may_be_null Acls = true
may_be_null Routers = true
may_be_null _ = false

abbrev pub null_faults : Option MapKind → List Found
null_faults None = here (Some WrongType)
null_faults (Some m) = if may_be_null m then missing_in m [] else here (Some WrongType)

abbrev pub tree_step : Tree-F Faults Entry → Faults
tree_step tree.Null kind = null_faults (map_kind kind)
tree_step (tree.Bool b) kind = here (flag_cause kind)
tree_step (tree.Int n) kind = here (number_cause kind n)
tree_step (tree.Text text) kind = here (text_cause kind text)
tree_step (tree.List items) kind = list_faults (item_kind kind) items
tree_step (tree.Map entries) kind = in_map (map_kind kind) entries

abbrev pub pair_step : Pair-F Faults Entry → Entry
pair_step pair = (pair.key, pair.value)

abbrev pub faults_of : Tree → Faults
faults_of = fold-Tree Faults Entry tree_step pair_step

abbrev pub entry_of : Pair → Entry
entry_of = fold-Pair Faults Entry tree_step pair_step

abbrev pub entries_of : List Pair → List Entry
entries_of pairs = map entry_of pairs

abbrev pub first : List Found → Option Found
first [] = None
first (f ∷ fs) = Some f

-- the steps joined by points, and one point where there is none
abbrev pub dotted : List (List ℕ) → List ℕ
dotted [] = []
dotted (step ∷ steps) = 46 ∷ (step ++ dotted steps)

abbrev pub path_of : List (List ℕ) → List ℕ
path_of [] = codes "."
path_of (step ∷ steps) = step ++ dotted steps

abbrev pub fault_of : Found → ConfFault
fault_of found = record { path = path_of found.steps; cause = found.cause }

-- the first fault of a document
abbrev pub first_fault : Tree → Option ConfFault
first_fault t = option_map fault_of (first (faults_of t (Map Top)))
