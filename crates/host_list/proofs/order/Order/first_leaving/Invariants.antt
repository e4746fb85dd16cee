use Rattle.std.proofs.Common.{◌≡◌}
use Rattle.host_list.specs.Leaving.{from_place, leaves}
use Rattle.host_list.specs.Order.{first_place}
use Rattle.host_list.proofs.order.Order.first_leaving.Given as goal

abbrev pub invariant-loop-place : goal.invariant-loop-place
invariant-loop-place l =
    (goal.iterator-loop-place).can_next l.place-iterator ×
    (goal.iterator-loop-place).is_finite l.place-iterator ×
    (first_place (leaves l.leaving) l.place-iterator ≡ first_place (leaves l.leaving) (from_place l.from l.self))
