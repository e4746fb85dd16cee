use Rattle.std.proofs.Common.{length}
use Rattle.bgp_messages.specs.Attributes.{SpellsAttribute}
use Rattle.bgp_messages.proofs.Joining.{Left}
use Rattle.bgp_messages.proofs.attribute.read_attributes.Given as goal

abbrev pub invariant-loop-rest : goal.invariant-loop-rest
invariant-loop-rest l = Left SpellsAttribute l.bytes l.attributes l.rest

abbrev pub decreases-loop-rest : goal.decreases-loop-rest
decreases-loop-rest l = length l.rest
