-- The faults of a tree, by what it is made of, and the first of several lists of faults.
use Rattle.std.proofs.Common.{◌≡◌, ℕ, List, [], ◌∷◌, ◌++◌, Option, Some, None, refl, sym, ap, ◌∙◌}
use Rattle.std.specs.Prelude.{map}
use Rattle.yaml_tree.specs.declared.tree.Tree.{Tree}
use Rattle.yaml_tree.specs.declared.tree.Tree.TheVariants as trees
use Rattle.yaml_tree.specs.declared.tree.Pair.{Pair}
use Rattle.yaml_tree.specs.declared.tree.Tree.TheOpen as open_tree
use Rattle.yaml_tree.specs.declared.tree.Tree.TheFolds.{fold-roll-Tree, fold_out-Pair}
use Rattle.conf_shape.specs.declared.faults.Found.{Found}
use Rattle.conf_shape.specs.declared.kinds.Kind.{Kind}
use Rattle.conf_shape.specs.Scalars.{item_kind, map_kind}
use Rattle.conf_shape.specs.Faults.{Faults, Entry, found_under, under, first, list_faults, in_map, tree_step, pair_step, faults_of, entry_of, entries_of}

pub faults_list : (items : List Tree) (kind : Kind) → faults_of (trees.List items) kind ≡ list_faults (item_kind kind) (map faults_of items)
faults_list items kind = ap (λ t. faults_of t kind) (sym (trees.rolls-List items)) ∙ ap (λ (f : Faults). f kind) (fold-roll-Tree Faults Entry tree_step pair_step (open_tree.List items))

pub faults_map : (pairs : List Pair) (kind : Kind) → faults_of (trees.Map pairs) kind ≡ in_map (map_kind kind) (entries_of pairs)
faults_map pairs kind = ap (λ t. faults_of t kind) (sym (trees.rolls-Map pairs)) ∙ ap (λ (f : Faults). f kind) (fold-roll-Tree Faults Entry tree_step pair_step (open_tree.Map pairs))

pub entry_pair : (pair : Pair) → entry_of pair ≡ (pair.key, faults_of pair.value)
entry_pair pair = fold_out-Pair Faults Entry tree_step pair_step pair

-- the first of two lists is that of the first list, or where it has none that of the second
pub first_none : (step : List ℕ) (fs gs : List Found) → first fs ≡ None → first (under step fs ++ gs) ≡ first gs
first_none step [] gs e = refl
first_none step (f ∷ fs) gs e = cc

pub first_some : (step : List ℕ) (fs gs : List Found) (f : Found) → first fs ≡ Some f → first (under step fs ++ gs) ≡ Some (found_under step f)
first_some step [] gs f e = cc
first_some step (g ∷ fs) gs f e = ap (λ (x : Option Found). option_behind x) e
  where
    option_behind : Option Found → Option Found
    option_behind None = None
    option_behind (Some x) = Some (found_under step x)

pub ruleset walk_rules = (faults_list, faults_map, entry_pair, first_none, first_some)
