use Rattle.std.proofs.Common.{◌≡◌, ◌++◌, drop, map}
use Rattle.bgp_texts.specs.Trees.{longer}
use Rattle.bgp_texts.proofs.trees.all_longer.Given as goal

-- those of what is left complete the list
abbrev pub invariant-loop-pair : goal.invariant-loop-pair
invariant-loop-pair l = l.made ++ map (longer l.items) (drop l.pair-index l.pairs) ≡ map (longer l.items) l.pairs
