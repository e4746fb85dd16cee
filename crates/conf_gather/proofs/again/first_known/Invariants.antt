use Rattle.std.proofs.Common.{◌≡◌, List, drop}
use Rattle.yaml_tree.specs.declared.tree.Pair.{Pair}
use Rattle.conf_gather.specs.Known.{AreKeysOf}
use Rattle.conf_gather.specs.Joined.{first_in_both}
use Rattle.conf_gather.proofs.again.first_known.Given as goal

-- no key so far is known
abbrev pub invariant-loop-pair : goal.invariant-loop-pair
invariant-loop-pair l = (before : List Pair) → AreKeysOf before l.known → first_in_both before (drop l.pair-index l.pairs) ≡ first_in_both before l.pairs
