use Rattle.std.proofs.Common.{◌≡◌, ◌++◌, drop}
use Rattle.bgp_texts.proofs.trees.push_pairs.Given as goal

-- what is left completes the list
abbrev pub invariant-loop-pair : goal.invariant-loop-pair
invariant-loop-pair l = l.pairs ++ drop l.pair-index l.more ≡ l.fn.pairs ++ l.more
