use Rattle.std.proofs.Common.{◌≡◌, min, take}
use Rattle.std.specs.Prelude.{sum_by}
use Rattle.conf_types.specs.Valid.{ports_named}
use Rattle.conf_limits.specs.Sizes.{vlan_cost}
use Rattle.conf_limits.proofs.acl_sizes.outputs_for_vlans.Given as goal

-- those so far are added
abbrev pub invariant-loop-vlan : goal.invariant-loop-vlan
invariant-loop-vlan l = l.sum ≡ min l.cap (sum_by (vlan_cost (λ rules. sum_by (ports_named l.ports.dp.now) rules) l.acls l.ports.dp.now) (take l.vlan-index l.acls.vlans))
