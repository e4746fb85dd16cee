use Rattle.std.proofs.Common.{take}
use Rattle.conf_gather.proofs.KnownLemmas.{KnowsMore}
use Rattle.conf_gather.proofs.key_set.KeySet.add_all.Given as goal

-- those so far are known too
abbrev pub invariant-loop-pair : goal.invariant-loop-pair
invariant-loop-pair l = KnowsMore l.fn.self (take l.pair-index l.pairs) l.self
