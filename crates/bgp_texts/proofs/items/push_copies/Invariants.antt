use Rattle.std.proofs.Common.{◌≡◌, ◌++◌, drop}
use Rattle.bgp_texts.proofs.items.push_copies.Given as goal

-- what is left completes the list
abbrev pub invariant-loop-tree : goal.invariant-loop-tree
invariant-loop-tree l = l.trees ++ drop l.tree-index l.more ≡ l.fn.trees ++ l.more
