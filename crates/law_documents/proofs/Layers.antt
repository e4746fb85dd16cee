-- Two documents that are the same but for the order of entries, by what they are made of.
use Rattle.std.proofs.Common.{◌≡◌, List, [], ◌∷◌, ◌++◌, refl, sym, ap, ap₂, ◌∙◌, subst}
use Rattle.std.specs.Prelude.{map}
use Rattle.std.specs.List.{AllByRecursion}
use Rattle.yaml_tree.specs.declared.tree.Pair.{Pair}
use Rattle.yaml_tree.specs.declared.tree.Tree.{Tree, out-Tree, out-roll-Tree}
use Rattle.yaml_tree.specs.declared.tree.Tree.TheOpen.{Tree-F}
use Rattle.yaml_tree.specs.declared.tree.Tree.TheOpen as tree
use Rattle.yaml_tree.specs.declared.tree.Tree.TheVariants as trees
use Rattle.law_documents.specs.SameButOrder.{SameButOrder, equal, lists, maps, SameItems, no_items, item, SameEntries, no_entries, entry}
use Rattle.law_documents.proofs.Reordered.{Reordered, none, one}

-- the key is the same, and so is the value but for the order
abbrev pub IsSameEntry : Pair → Pair → Type 0
IsSameEntry p q = (p.key ≡ q.key) × SameButOrder p.value q.value

pub entries_reordered : (ps qs : List Pair) → SameEntries ps qs → Reordered IsSameEntry ps qs
entries_reordered _ _ no_entries = none
entries_reordered _ _ (entry p q ps before behind key value more) = one p q ps before behind (key, value) (entries_reordered ps (before ++ behind) more)

pub items_themselves : (ts : List Tree) → SameItems ts ts
items_themselves [] = no_items
items_themselves (t ∷ ts) = item t t ts ts (equal t) (items_themselves ts)

-- one value for the items of both lists, which have something in common
pub items_mapped : {A : Type 0} (P : Tree → Type 0) (f : Tree → A) → ((t u : Tree) → P t → SameButOrder t u → f t ≡ f u) → (ts us : List Tree) → SameItems ts us → AllByRecursion P ts → map f ts ≡ map f us
items_mapped P f each _ _ no_items all = refl
items_mapped {A = A} P f each _ _ (item t u ts us same more) all = ap₂ (λ (x : A) (xs : List A). x ∷ xs) (each t u all.0 same) (items_mapped P f each ts us more all.1)

-- ---- one layer

pub data SameLayer : Tree-F Tree Pair → Tree-F Tree Pair → Type 0 where
  alike : (x : Tree-F Tree Pair) → SameLayer x x
  two_lists : (ts us : List Tree) → SameItems ts us → SameLayer (tree.List ts) (tree.List us)
  two_maps : (ps qs : List Pair) → Reordered IsSameEntry ps qs → SameLayer (tree.Map ps) (tree.Map qs)

out_list : (ts : List Tree) → out-Tree (trees.List ts) ≡ tree.List ts
out_list ts = ap out-Tree (sym (trees.rolls-List ts)) ∙ out-roll-Tree (tree.List ts)

out_map : (ps : List Pair) → out-Tree (trees.Map ps) ≡ tree.Map ps
out_map ps = ap out-Tree (sym (trees.rolls-Map ps)) ∙ out-roll-Tree (tree.Map ps)

pub layer : (t u : Tree) → SameButOrder t u → SameLayer (out-Tree t) (out-Tree u)
layer _ _ (equal t) = alike (out-Tree t)
layer _ _ (lists ts us same) = subst (λ x. SameLayer x (out-Tree (trees.List us))) (sym (out_list ts)) (subst (SameLayer (tree.List ts)) (sym (out_list us)) (two_lists ts us same))
layer _ _ (maps ps qs same) =
    subst (λ x. SameLayer x (out-Tree (trees.Map qs))) (sym (out_map ps)) (subst (SameLayer (tree.Map ps)) (sym (out_map qs)) (two_maps ps qs (entries_reordered ps qs same)))

-- what reads no list and no map reads the same of both
pub record ReadsAlone {A : Type 0} (f : Tree-F Tree Pair → A) : Type 0 where
  pub no_list : (ts us : List Tree) → f (tree.List ts) ≡ f (tree.List us)
  pub no_map : (ps qs : List Pair) → f (tree.Map ps) ≡ f (tree.Map qs)

pub read_alone : {A : Type 0} (f : Tree-F Tree Pair → A) → ReadsAlone f → (t u : Tree) → SameButOrder t u → f (out-Tree t) ≡ f (out-Tree u)
read_alone {A = A} f alone t u same = by (out-Tree t) (out-Tree u) (layer t u same)
  where
    by : (x y : Tree-F Tree Pair) → SameLayer x y → f x ≡ f y
    by _ _ (alike x) = refl
    by _ _ (two_lists ts us items) = alone.no_list ts us
    by _ _ (two_maps ps qs entries) = alone.no_map ps qs
