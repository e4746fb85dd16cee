use Rattle.std.proofs.Common.{◌≡◌, drop, take, []}
use Rattle.conf_limits.specs.MetVips.{HasVips}
use Rattle.conf_rules.specs.Places.{first, with_earlier}
use Rattle.conf_rules.specs.Routing.{overlapping_of_vlan}
use Rattle.std.specs.List.{flat_map, zip}
use Rattle.conf_limits.proofs.routing.overlapping_vips.Given as goal

-- none so far breaks the rule, and the VIPs of the VLANs so far are met
abbrev pub invariant-loop-i : goal.invariant-loop-i
invariant-loop-i l =
    (first (flat_map (overlapping_of_vlan l.conf) (zip (drop l.i l.ordered.vlans) (with_earlier (take l.i l.conf.vlans) (drop l.i l.conf.vlans)))) ≡ first (flat_map (overlapping_of_vlan l.conf) (zip l.ordered.vlans (with_earlier [] l.conf.vlans))))
    × HasVips l.met (take l.i l.conf.vlans)
