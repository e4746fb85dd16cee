use Rattle.std.proofs.Common.{◌≡◌, not, filter, length}
use Rattle.conf_types.specs.State.{is_to_forget}
use Rattle.host_list.specs.Addresses.{Entry}
use Rattle.host_list.specs.Leaving.{from_place}
use Rattle.host_list.specs.Order.{first_place}
use Rattle.host_list.proofs.ageing.leave_due.Given as goal

abbrev pub invariant-loop-place : goal.invariant-loop-place
invariant-loop-place l =
    (filter (λ (e : Entry). not (is_to_forget l.conf l.now.0 e.1)) l.order ≡ filter (λ (e : Entry). not (is_to_forget l.conf l.now.0 e.1)) l.initial.order)
    × (first_place (is_to_forget l.conf l.now.0) (from_place l.passed.front l.order) ≡ first_place (is_to_forget l.conf l.now.0) l.order)

abbrev pub decreases-loop-place : goal.decreases-loop-place
decreases-loop-place l = length l.order
