use Rattle.std.proofs.Common.{length, []}
use Rattle.of_wire.specs.Reading.{field_step, many}
use Rattle.of_wire.proofs.Many.{Way}
use Rattle.of_wire.proofs.matches.read_field_list.Given as goal

abbrev pub invariant-loop-rest : goal.invariant-loop-rest
invariant-loop-rest l = Way (field_step l.strict l.past) (many (field_step l.strict l.past) (length l.bytes) [] l.at l.bytes) l.at l.bytes l.fields l.place l.rest

abbrev pub decreases-loop-rest : goal.decreases-loop-rest
decreases-loop-rest l = length l.rest
