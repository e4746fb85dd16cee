use Rattle.std.proofs.Common.{length}
use Rattle.bgp_messages.proofs.Opens.{Reads}
use Rattle.bgp_messages.proofs.parameters.are_capabilities.Given as goal

abbrev pub invariant-loop-rest : goal.invariant-loop-rest
invariant-loop-rest l = Reads l.bytes l.are l.rest

abbrev pub decreases-loop-rest : goal.decreases-loop-rest
decreases-loop-rest l = length l.rest
