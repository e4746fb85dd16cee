-- The trees whose printed form is read back.
use Rattle.std.specs.Prelude.{◌≤◌, ◌≡◌, nat_lt, Bool, true, false, not, ◌&&◌, ◌||◌, List, [], ◌∷◌, ◌++◌, length, ℤ, pos, negsuc}
use Rattle.std.specs.Str.{is_utf8}
use Rattle.yaml_tree.specs.declared.tree.Key.{Key}
use Rattle.yaml_tree.specs.declared.tree.Key.TheVariants as keys
use Rattle.yaml_tree.specs.declared.tree.Tree.{Tree}
use Rattle.yaml_tree.specs.declared.tree.Pair.{Pair}
use Rattle.yaml_tree.specs.declared.tree.Tree.TheOpen.{Tree-F, Pair-F}
use Rattle.yaml_tree.specs.declared.tree.Tree.TheOpen as tree
use Rattle.yaml_tree.specs.declared.tree.Tree.TheFolds.{fold-Tree, fold-Pair}
use Rattle.yaml_subset.specs.Levels.{levels}
use Rattle.yaml_subset.specs.Numbers.{greatest}
use Rattle.yaml_subset.specs.Entries.{key_eq}
use Rattle.yaml_subset.specs.Printed.{printed}

-- at least -2^127 and less than 2^127
abbrev pub is_i128 : ℤ → Bool
is_i128 (pos n) = nat_lt n greatest
is_i128 (negsuc n) = nat_lt n greatest

-- an i128, or UTF-8
abbrev pub is_key : Key → Bool
is_key (keys.Int n) = is_i128 n
is_key (keys.Text text) = is_utf8 text

-- one of the keys is this one
abbrev pub is_among : List Key → Key → Bool
is_among [] k = false
is_among (j ∷ js) k = key_eq j k || is_among js k

-- the entries behind these keys: each is sound, and its key is new
abbrev pub entries_sound : List Key → List (Key × Bool) → Bool
entries_sound before [] = true
entries_sound before (e ∷ es) = is_key e.0 && (e.1 && (not (is_among before e.0) && entries_sound (before ++ e.0 ∷ []) es))

abbrev pub all_sound : List Bool → Bool
all_sound [] = true
all_sound (b ∷ bs) = b && all_sound bs

abbrev pub sound_step : Tree-F Bool (Key × Bool) → Bool
sound_step tree.Null = true
sound_step (tree.Bool b) = true
sound_step (tree.Int n) = is_i128 n
sound_step (tree.Text text) = is_utf8 text
sound_step (tree.List items) = all_sound items
sound_step (tree.Map pairs) = entries_sound [] pairs

abbrev pub sound_pair : Pair-F Bool (Key × Bool) → Key × Bool
sound_pair pair = (pair.key, pair.value)

-- each number is an i128, each text is UTF-8, and the keys of a map differ
abbrev pub is_sound : Tree → Bool
is_sound = fold-Tree Bool (Key × Bool) sound_step sound_pair

-- an entry's key, and whether its value is sound
abbrev pub entry_sound : Pair → Key × Bool
entry_sound = fold-Pair Bool (Key × Bool) sound_step sound_pair

-- a tree that a text spells, which what is printed of it does
pub record IsSpelled (tree : Tree) : Type 0 where
  pub sound : is_sound tree ≡ true
  pub nested : levels tree ≤ 32
  pub short : length (printed tree) ≤ 1048576
