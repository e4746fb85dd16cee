-- Keys of a map, which are told apart by their type and value.
use Rattle.std.specs.Prelude.{Bool, false, ◌||◌, List, [], ◌∷◌}
use Rattle.std.specs.Str.{bytes_eq}
use Rattle.std.specs.Ordering.{int_eq}
use Rattle.yaml_tree.specs.declared.tree.Key.{Key}
use Rattle.yaml_tree.specs.declared.tree.Key.TheVariants as key
use Rattle.yaml_tree.specs.declared.tree.Pair.{Pair}

abbrev pub key_eq : Key → Key → Bool
key_eq (key.Int m) (key.Int n) = int_eq m n
key_eq (key.Text s) (key.Text t) = bytes_eq s t
key_eq _ _ = false

-- one of the entries has the key
unfoldable pub has_key : List Pair → Key → Bool
has_key [] k = false
has_key (p ∷ ps) k = key_eq p.key k || has_key ps k
