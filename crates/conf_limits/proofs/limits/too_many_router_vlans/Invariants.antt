use Rattle.std.proofs.Common.{◌≡◌, drop}
use Rattle.conf_rules.specs.Limits.{many_router_vlans}
use Rattle.conf_rules.specs.Places.{first}
use Rattle.std.specs.List.{flat_map, zip}
use Rattle.conf_limits.proofs.limits.too_many_router_vlans.Given as goal

-- none so far breaks the rule
abbrev pub invariant-loop-i : goal.invariant-loop-i
invariant-loop-i l = first (flat_map many_router_vlans (zip (drop l.i l.ordered.routers) (drop l.i l.conf.routers))) ≡ first (flat_map many_router_vlans (zip l.ordered.routers l.conf.routers))
