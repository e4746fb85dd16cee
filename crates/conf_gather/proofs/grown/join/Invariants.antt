use Rattle.std.proofs.Common.{◌≡◌, drop}
use Rattle.conf_gather.specs.Joined.{joined}
use Rattle.conf_gather.proofs.grown.join.Given as goal

-- what is left is still to be joined
abbrev pub invariant-loop-pair : goal.invariant-loop-pair
invariant-loop-pair l = joined l.all (drop l.pair-index l.pairs) ≡ joined l.fn.gathered l.pairs
