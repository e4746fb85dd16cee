-- How many lists and maps are nested in a tree, by what it is made of.
use Rattle.std.proofs.Common.{◌≡◌, ℕ, ◌+◌, List, sym, ap, ◌∙◌}
use Rattle.std.specs.Prelude.{map}
use Rattle.yaml_tree.specs.declared.tree.Tree.{Tree}
use Rattle.yaml_tree.specs.declared.tree.Tree.TheVariants as trees
use Rattle.yaml_tree.specs.declared.tree.Pair.{Pair}
use Rattle.yaml_tree.specs.declared.tree.Tree.TheOpen as open_tree
use Rattle.yaml_tree.specs.declared.tree.Tree.TheFolds.{fold-roll-Tree, fold_out-Pair}
use Rattle.yaml_subset.specs.Levels.{most, levels_step, pair_levels_step, levels, pair_levels}

pub levels_list : (items : List Tree) → levels (trees.List items) ≡ 1 + most (map levels items)
levels_list items = ap levels (sym (trees.rolls-List items)) ∙ fold-roll-Tree ℕ ℕ levels_step pair_levels_step (open_tree.List items)

pub levels_map : (pairs : List Pair) → levels (trees.Map pairs) ≡ 1 + most (map pair_levels pairs)
levels_map pairs = ap levels (sym (trees.rolls-Map pairs)) ∙ fold-roll-Tree ℕ ℕ levels_step pair_levels_step (open_tree.Map pairs)

pub levels_pair : (pair : Pair) → pair_levels pair ≡ levels pair.value
levels_pair pair = fold_out-Pair ℕ ℕ levels_step pair_levels_step pair
