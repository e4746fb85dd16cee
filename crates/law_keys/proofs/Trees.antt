-- Trees by their layers, and what holds of each tree where it holds of those below.
use Rattle.std.specs.Prelude.{◌≡◌, ℕ, zero, suc, ◌+◌, ◌≤◌, max, List, [], ◌∷◌, map}
use Rattle.std.specs.List.{AllByRecursion}
use Rattle.std.proofs.Common.{sym, ap, ◌∙◌, subst, arith}
use Rattle.yaml_tree.specs.declared.tree.Pair.{Pair}
use Rattle.yaml_tree.specs.declared.tree.Tree.{Tree, out-Tree, roll-Tree, roll-out-Tree, out-roll-Tree}
use Rattle.yaml_tree.specs.declared.tree.Tree.TheOpen.{Tree-F, Pair-F}
use Rattle.yaml_tree.specs.declared.tree.Tree.TheOpen as tree
use Rattle.yaml_tree.specs.declared.tree.Tree.TheVariants as trees
use Rattle.yaml_tree.specs.declared.tree.Tree.TheFolds.{fold-Tree, fold-Pair, fold-roll-Tree, fold_out-Pair}

-- ---- the tree of a layer

abbrev pub as_tree : Tree-F Tree Pair → Tree
as_tree tree.Null = trees.Null
as_tree (tree.Bool flag) = trees.Bool flag
as_tree (tree.Int n) = trees.Int n
as_tree (tree.Text text) = trees.Text text
as_tree (tree.List items) = trees.List items
as_tree (tree.Map pairs) = trees.Map pairs

pub rolled : (x : Tree-F Tree Pair) → roll-Tree x ≡ as_tree x
rolled tree.Null = trees.rolls-Null
rolled (tree.Bool flag) = trees.rolls-Bool flag
rolled (tree.Int n) = trees.rolls-Int n
rolled (tree.Text text) = trees.rolls-Text text
rolled (tree.List items) = trees.rolls-List items
rolled (tree.Map pairs) = trees.rolls-Map pairs

pub layer_of : (x : Tree-F Tree Pair) → out-Tree (as_tree x) ≡ x
layer_of x = ap out-Tree (sym (rolled x)) ∙ out-roll-Tree x

pub tree_of : (t : Tree) → as_tree (out-Tree t) ≡ t
tree_of t = sym (rolled (out-Tree t)) ∙ roll-out-Tree t

-- ---- how deep a tree is

abbrev deepest : List ℕ → ℕ
deepest [] = 0
deepest (n ∷ ns) = max n (deepest ns)

abbrev depth_step : Tree-F ℕ ℕ → ℕ
depth_step tree.Null = 0
depth_step (tree.Bool flag) = 0
depth_step (tree.Int n) = 0
depth_step (tree.Text text) = 0
depth_step (tree.List items) = 1 + deepest items
depth_step (tree.Map pairs) = 1 + deepest pairs

abbrev pair_step : Pair-F ℕ ℕ → ℕ
pair_step pair = pair.value

abbrev depth : Tree → ℕ
depth = fold-Tree ℕ ℕ depth_step pair_step

abbrev pair_depth : Pair → ℕ
pair_depth = fold-Pair ℕ ℕ depth_step pair_step

abbrev layer_depth : Tree-F Tree Pair → ℕ
layer_depth (tree.List items) = 1 + deepest (map depth items)
layer_depth (tree.Map pairs) = 1 + deepest (map pair_depth pairs)
layer_depth _ = 0

rolled_depth : (x : Tree-F Tree Pair) → depth (roll-Tree x) ≡ layer_depth x
rolled_depth tree.Null = fold-roll-Tree ℕ ℕ depth_step pair_step tree.Null
rolled_depth (tree.Bool flag) = fold-roll-Tree ℕ ℕ depth_step pair_step (tree.Bool flag)
rolled_depth (tree.Int n) = fold-roll-Tree ℕ ℕ depth_step pair_step (tree.Int n)
rolled_depth (tree.Text text) = fold-roll-Tree ℕ ℕ depth_step pair_step (tree.Text text)
rolled_depth (tree.List items) = fold-roll-Tree ℕ ℕ depth_step pair_step (tree.List items)
rolled_depth (tree.Map pairs) = fold-roll-Tree ℕ ℕ depth_step pair_step (tree.Map pairs)

depth_is : (t : Tree) → depth t ≡ layer_depth (out-Tree t)
depth_is t = subst (λ u. depth u ≡ layer_depth (out-Tree t)) (roll-out-Tree t) (rolled_depth (out-Tree t))

pair_depth_is : (p : Pair) → pair_depth p ≡ depth p.value
pair_depth_is p = fold_out-Pair ℕ ℕ depth_step pair_step p

-- ---- induction

abbrev pub Below : (Tree → Type 0) → Tree-F Tree Pair → Type 0
Below P (tree.List items) = AllByRecursion P items
Below P (tree.Map pairs) = AllByRecursion (λ p. P p.value) pairs
Below P _ = Unit {0}

module _ (P : Tree → Type 0) where
  items_by : (k : ℕ) → ((t : Tree) → depth t ≤ k → P t) → (ts : List Tree) → deepest (map depth ts) ≤ k → AllByRecursion P ts
  items_by k h [] le = tt
  items_by k h (t ∷ ts) le = (h t (omega (arith, le)), items_by k h ts (omega (arith, le)))

  pairs_by : (k : ℕ) → ((t : Tree) → depth t ≤ k → P t) → (ps : List Pair) → deepest (map pair_depth ps) ≤ k → AllByRecursion (λ p. P p.value) ps
  pairs_by k h [] le = tt
  pairs_by k h (p ∷ ps) le = (h p.value (omega (arith, le, pair_depth_is p)), pairs_by k h ps (omega (arith, le)))

  below_by : (k : ℕ) → ((t : Tree) → depth t ≤ k → P t) → (x : Tree-F Tree Pair) → layer_depth x ≤ k + 1 → Below P x
  below_by k h (tree.List items) le = items_by k h items (omega (arith, le))
  below_by k h (tree.Map pairs) le = pairs_by k h pairs (omega (arith, le))
  below_by k h tree.Null le = tt
  below_by k h (tree.Bool flag) le = tt
  below_by k h (tree.Int n) le = tt
  below_by k h (tree.Text text) le = tt

  flat : (x : Tree-F Tree Pair) → layer_depth x ≤ 0 → Below P x
  flat (tree.List items) le = absurd (omega (arith, le))
  flat (tree.Map pairs) le = absurd (omega (arith, le))
  flat tree.Null le = tt
  flat (tree.Bool flag) le = tt
  flat (tree.Int n) le = tt
  flat (tree.Text text) le = tt

  up_to : ((t : Tree) → Below P (out-Tree t) → P t) → (k : ℕ) (t : Tree) → depth t ≤ k → P t
  up_to each zero t le = each t (flat (out-Tree t) (omega (arith, le, depth_is t)))
  up_to each (suc k) t le = each t (below_by k (up_to each k) (out-Tree t) (omega (arith, le, depth_is t)))

  pub by_layers : ((t : Tree) → Below P (out-Tree t) → P t) → (t : Tree) → P t
  by_layers each t = up_to each (depth t) t (omega arith)
