use Rattle.std.proofs.Common.{◌≡◌, ◌++◌, map, drop}
use Rattle.conf_shape.specs.Reads.{words_of}
use Rattle.gauge_conf.proofs.reading.all_words.Given as goal

-- what is left completes the list
abbrev pub invariant-loop-tree : goal.invariant-loop-tree
invariant-loop-tree l = l.made ++ map words_of (drop l.tree-index l.trees) ≡ map words_of l.trees
