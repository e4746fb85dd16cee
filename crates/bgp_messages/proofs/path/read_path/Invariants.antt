use Rattle.std.proofs.Common.{length}
use Rattle.bgp_messages.proofs.Paths.{Reads}
use Rattle.bgp_messages.proofs.path.read_path.Given as goal

abbrev pub invariant-loop-rest : goal.invariant-loop-rest
invariant-loop-rest l = Reads l.value l.numbers l.rest

abbrev pub decreases-loop-rest : goal.decreases-loop-rest
decreases-loop-rest l = length l.rest
