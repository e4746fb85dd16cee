use Rattle.std.proofs.Common.{◌≡◌, min, take}
use Rattle.std.specs.Prelude.{sum_by}
use Rattle.conf_rules.specs.Limits.{gateways_of}
use Rattle.conf_limits.proofs.sizes.all_gateways.Given as goal

-- those so far are added
abbrev pub invariant-loop-vlan : goal.invariant-loop-vlan
invariant-loop-vlan l = l.sum ≡ min l.cap (sum_by gateways_of (take l.vlan-index l.conf.vlans))
