-- Documents that are the same but for the order of entries are so both ways.
use Rattle.std.proofs.Common.{◌≡◌, List, [], ◌∷◌, ◌++◌, refl, sym}
use Rattle.yaml_tree.specs.declared.tree.Pair.{Pair}
use Rattle.yaml_tree.specs.declared.tree.Tree.{Tree}
use Rattle.yaml_tree.specs.declared.tree.Tree.TheVariants as trees
use Rattle.law_documents.specs.SameButOrder.{SameButOrder, equal, lists, maps, SameItems, no_items, item, SameEntries, no_entries, entry}

entry_with : (before : List Pair) (q : Pair) (behind : List Pair) (p : Pair) (ps : List Pair) → q.key ≡ p.key → SameButOrder q.value p.value → SameEntries (before ++ behind) ps → SameEntries (before ++ q ∷ behind) (p ∷ ps)
entry_with [] q behind p ps key value more = entry q p behind [] ps key value more
entry_with (_ ∷ before) q behind p _ key value (entry x y xs front back k v more) = entry x y (before ++ q ∷ behind) (p ∷ front) back k v (entry_with before q behind p (front ++ back) key value more)

mutual
  pub same_back : (t u : Tree) → SameButOrder t u → SameButOrder u t
  same_back _ _ (equal t) = equal t
  same_back _ _ (lists ts us same) = lists us ts (items_back ts us same)
  same_back _ _ (maps ps qs same) = maps qs ps (entries_back ps qs same)

  items_back : (ts us : List Tree) → SameItems ts us → SameItems us ts
  items_back _ _ no_items = no_items
  items_back _ _ (item t u ts us same more) = item u t us ts (same_back t u same) (items_back ts us more)

  entries_back : (ps qs : List Pair) → SameEntries ps qs → SameEntries qs ps
  entries_back _ _ no_entries = no_entries
  entries_back _ _ (entry p q ps before behind key value more) = entry_with before q behind p ps (sym key) (same_back p.value q.value value) (entries_back ps (before ++ behind) more)

-- ---- two entries that stand side by side

entries_themselves : (ps : List Pair) → SameEntries ps ps
entries_themselves [] = no_entries
entries_themselves (p ∷ ps) = entry p p ps [] ps refl (equal p.value) (entries_themselves ps)

entries_swapped : (before : List Pair) (p q : Pair) (behind : List Pair) → SameEntries (before ++ p ∷ q ∷ behind) (before ++ q ∷ p ∷ behind)
entries_swapped [] p q behind = entry p p (q ∷ behind) (q ∷ []) behind refl (equal p.value) (entries_themselves (q ∷ behind))
entries_swapped (x ∷ before) p q behind = entry x x (before ++ p ∷ q ∷ behind) [] (before ++ q ∷ p ∷ behind) refl (equal x.value) (entries_swapped before p q behind)

pub swapped : (before : List Pair) (p q : Pair) (behind : List Pair) → SameButOrder (trees.Map (before ++ p ∷ q ∷ behind)) (trees.Map (before ++ q ∷ p ∷ behind))
swapped before p q behind = maps (before ++ p ∷ q ∷ behind) (before ++ q ∷ p ∷ behind) (entries_swapped before p q behind)
