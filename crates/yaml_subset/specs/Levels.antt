-- How many lists and maps are nested in a tree.
use Rattle.std.specs.Prelude.{ℕ, ◌+◌, max, List, [], ◌∷◌}
use Rattle.yaml_tree.specs.declared.tree.Tree.{Tree}
use Rattle.yaml_tree.specs.declared.tree.Pair.{Pair}
use Rattle.yaml_tree.specs.declared.tree.Tree.TheOpen.{Tree-F, Pair-F}
use Rattle.yaml_tree.specs.declared.tree.Tree.TheOpen as tree
use Rattle.yaml_tree.specs.declared.tree.Tree.TheFolds.{fold-Tree, fold-Pair}

-- the greatest, or 0
abbrev pub most : List ℕ → ℕ
most [] = 0
most (n ∷ ns) = max n (most ns)

abbrev pub levels_step : Tree-F ℕ ℕ → ℕ
levels_step tree.Null = 0
levels_step (tree.Bool b) = 0
levels_step (tree.Int n) = 0
levels_step (tree.Text text) = 0
levels_step (tree.List items) = 1 + most items
levels_step (tree.Map pairs) = 1 + most pairs

abbrev pub pair_levels_step : Pair-F ℕ ℕ → ℕ
pair_levels_step pair = pair.value

-- how many lists and maps are nested
abbrev pub levels : Tree → ℕ
levels = fold-Tree ℕ ℕ levels_step pair_levels_step

abbrev pub pair_levels : Pair → ℕ
pair_levels = fold-Pair ℕ ℕ levels_step pair_levels_step
