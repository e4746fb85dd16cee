use Rattle.std.proofs.Common.{◌≡◌, count_by}
use Rattle.host_list.specs.Hosts.{refreshed}
use Rattle.host_list.specs.Order.{hosts_of, is_old}
use Rattle.host_list.proofs.moving.refresh.Given as goal

abbrev pub invariant-loop-place : goal.invariant-loop-place
invariant-loop-place l = refreshed l.heard (hosts_of l.order) ≡ refreshed l.heard (hosts_of l.initial.order)

abbrev pub decreases-loop-place : goal.decreases-loop-place
decreases-loop-place l = count_by (is_old l.heard) l.order
