use Rattle.std.proofs.Common.{◌≡◌, ◌++◌, drop, map}
use Rattle.conf_shape.proofs.reads.read_all.Given as goal

-- what is left completes the list
abbrev pub invariant-loop-tree : goal.invariant-loop-tree
invariant-loop-tree g l = l.made ++ map g.T.Read.given_by (drop l.tree-index l.trees) ≡ map g.T.Read.given_by l.trees
