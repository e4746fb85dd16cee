use Rattle.std.proofs.Common.{◌≡◌, not, filter, length}
use Rattle.host_list.specs.Addresses.{Entry}
use Rattle.host_list.specs.Order.{is_other}
use Rattle.host_list.proofs.moving.leave_others.Given as goal

abbrev pub invariant-loop-other : goal.invariant-loop-other
invariant-loop-other l = filter (λ (e : Entry). not (is_other l.conf l.heard l.place e)) l.order ≡ filter (λ (e : Entry). not (is_other l.conf l.heard l.place e)) l.initial.order

abbrev pub decreases-loop-other : goal.decreases-loop-other
decreases-loop-other l = length l.order
