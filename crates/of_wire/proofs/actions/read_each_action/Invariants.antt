use Rattle.std.proofs.Common.{length}
use Rattle.of_wire.specs.Reading.{action_step, actions_at}
use Rattle.of_wire.proofs.Many.{Way}
use Rattle.of_wire.proofs.actions.read_each_action.Given as goal

abbrev pub invariant-loop-rest : goal.invariant-loop-rest
invariant-loop-rest l = Way (action_step l.past) (actions_at l.past l.at l.bytes) l.at l.bytes l.actions l.place l.rest

abbrev pub decreases-loop-rest : goal.decreases-loop-rest
decreases-loop-rest l = length l.rest
