use Rattle.std.proofs.Common.{◌≡◌, drop}
use Rattle.conf_gather.specs.WrongTypes.{wrong_entries}
use Rattle.conf_gather.proofs.wrong.wrong_entries.Given as goal

-- no entry so far is wrong
abbrev pub invariant-loop-pair : goal.invariant-loop-pair
invariant-loop-pair l = wrong_entries l.included l.gathered (drop l.pair-index l.pairs) ≡ wrong_entries l.included l.gathered l.pairs
