-- Which keys entries have.
use Rattle.std.specs.Prelude.{◌≡◌, List, ◌∷◌, ◌++◌}
use Rattle.yaml_tree.specs.declared.tree.Key.{Key}
use Rattle.yaml_tree.specs.declared.tree.Pair.{Pair}

-- one of the entries has this key
pub record HasKey (pairs : List Pair) (k : Key) : Type 0 where
  pub before : List Pair
  pub pair : Pair
  pub behind : List Pair
  pub there : pairs ≡ before ++ pair ∷ behind
  pub same : pair.key ≡ k
