use Rattle.std.proofs.Common.{◌≡◌, take}
use Rattle.yaml_tree.proofs.tree.+tree.Given as goal

-- what is copied so far is the front of the list
abbrev pub invariant-copy_pairs-loop-pair : goal.invariant-copy_pairs-loop-pair
invariant-copy_pairs-loop-pair l = l.made ≡ take l.pair-index l.pairs

abbrev pub invariant-copy_trees-loop-tree : goal.invariant-copy_trees-loop-tree
invariant-copy_trees-loop-tree l = l.made ≡ take l.tree-index l.trees
