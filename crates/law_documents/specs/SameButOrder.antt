-- Documents that are the same but for the order in which the entries of their maps are written.
use Rattle.std.specs.Prelude.{◌≡◌, List, [], ◌∷◌, ◌++◌}
use Rattle.yaml_tree.specs.declared.tree.Pair.{Pair}
use Rattle.yaml_tree.specs.declared.tree.Tree.{Tree}
use Rattle.yaml_tree.specs.declared.tree.Tree.TheVariants as trees

mutual
  -- equal, or two lists that are so item by item, or two maps with such entries
  pub data SameButOrder : Tree → Tree → Type 0 where
    equal : (t : Tree) → SameButOrder t t
    lists : (ts us : List Tree) → SameItems ts us → SameButOrder (trees.List ts) (trees.List us)
    maps : (ps qs : List Pair) → SameEntries ps qs → SameButOrder (trees.Map ps) (trees.Map qs)

  pub data SameItems : List Tree → List Tree → Type 0 where
    no_items : SameItems [] []
    item : (t u : Tree) (ts us : List Tree) → SameButOrder t u → SameItems ts us → SameItems (t ∷ ts) (u ∷ us)

  -- the first entry of the one stands at some place of the other under the same key, and so do those that are left
  pub data SameEntries : List Pair → List Pair → Type 0 where
    no_entries : SameEntries [] []
    entry : (p q : Pair) (ps before behind : List Pair) → p.key ≡ q.key → SameButOrder p.value q.value → SameEntries ps (before ++ behind) → SameEntries (p ∷ ps) (before ++ q ∷ behind)
