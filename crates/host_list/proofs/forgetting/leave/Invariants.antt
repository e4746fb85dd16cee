use Rattle.std.proofs.Common.{◌≡◌, not, filter, length}
use Rattle.host_list.specs.Addresses.{Entry}
use Rattle.host_list.specs.Leaving.{from_place, leaves}
use Rattle.host_list.specs.Order.{first_place}
use Rattle.host_list.proofs.forgetting.leave.Given as goal

abbrev pub invariant-loop-place : goal.invariant-loop-place
invariant-loop-place l =
    (filter (λ (e : Entry). not (leaves l.leaving e.1)) l.order ≡ filter (λ (e : Entry). not (leaves l.leaving e.1)) l.initial.order)
    × (first_place (leaves l.leaving) (from_place l.from l.order) ≡ first_place (leaves l.leaving) l.order)

abbrev pub decreases-loop-place : goal.decreases-loop-place
decreases-loop-place l = length l.order
