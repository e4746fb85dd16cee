use Rattle.std.proofs.Common.{◌≡◌, sum_by, take}
use Rattle.host_list.specs.Order.{vlan_part}
use Rattle.host_list.proofs.order.group_count.Given as goal

abbrev pub invariant-loop-at : goal.invariant-loop-at
invariant-loop-at l = l.count ≡ sum_by (vlan_part l.conf l.order l.group l.vid) (take l.at l.conf.dps)
