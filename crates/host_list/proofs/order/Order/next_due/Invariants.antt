use Rattle.std.proofs.Common.{◌≡◌}
use Rattle.conf_types.specs.State.{is_to_forget}
use Rattle.host_list.specs.Leaving.{from_place}
use Rattle.host_list.specs.Order.{first_place}
use Rattle.host_list.specs.Passed.{least_until}
use Rattle.host_list.proofs.order.Order.next_due.Given as goal

abbrev pub invariant-loop-place : goal.invariant-loop-place
invariant-loop-place l =
    (goal.iterator-loop-place).can_next l.place-iterator ×
    (goal.iterator-loop-place).is_finite l.place-iterator ×
    (first_place (is_to_forget l.conf l.now.0) l.place-iterator ≡ first_place (is_to_forget l.conf l.now.0) (from_place l.passed.front l.self)) ×
    (least_until (is_to_forget l.conf l.now.0) l.least l.place-iterator ≡ least_until (is_to_forget l.conf l.now.0) l.passed.least (from_place l.passed.front l.self))
