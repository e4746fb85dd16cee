use Rattle.conf_gather.proofs.KnownLemmas.{no_keys}
use Rattle.conf_gather.proofs.grown.Grown.new.Goals as goal

pub invariant_of-result : goal.invariant_of-result
invariant_of-result c = rw c.new.ensures (no_keys c.new-2.result c.new-2.ensures, c.new-3.ensures)
