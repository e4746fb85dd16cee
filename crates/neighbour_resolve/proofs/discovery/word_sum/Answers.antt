use Rattle.std.proofs.Common.{◌∙◌}
use Rattle.neighbour_resolve.proofs.Summed.{sum_of}
use Rattle.neighbour_resolve.proofs.discovery.word_sum.Goals as goal

pub returns-clause-sum : goal.returns-clause-sum
returns-clause-sum c = c.from.ensures ∙ sum_of c.args.bytes.now c.checksum.result c.checksum.ensures
