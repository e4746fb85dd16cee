use Rattle.std.proofs.Common.{length}
use Rattle.bgp_messages.specs.Prefixes.{SpellsPrefix}
use Rattle.bgp_messages.proofs.Joining.{Left}
use Rattle.bgp_messages.proofs.prefixes.read_prefixes.Given as goal

abbrev pub invariant-loop-rest : goal.invariant-loop-rest
invariant-loop-rest l = Left SpellsPrefix l.bytes l.nets l.rest

abbrev pub decreases-loop-rest : goal.decreases-loop-rest
decreases-loop-rest l = length l.rest
