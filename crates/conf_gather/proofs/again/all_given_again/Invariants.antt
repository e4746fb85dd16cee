use Rattle.std.proofs.Common.{◌≡◌, drop}
use Rattle.conf_gather.specs.Joined.{all_given_again}
use Rattle.conf_gather.proofs.again.all_given_again.Given as goal

-- no entry so far gives a name again
abbrev pub invariant-loop-pair : goal.invariant-loop-pair
invariant-loop-pair l = all_given_again l.gathered (drop l.pair-index l.pairs) ≡ all_given_again l.gathered l.pairs
