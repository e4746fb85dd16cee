use Rattle.std.proofs.Common.{◌≡◌, drop}
use Rattle.conf_rules.specs.Places.{first}
use Rattle.conf_rules.specs.Routing.{wrong_routes_of}
use Rattle.std.specs.List.{flat_map, zip}
use Rattle.conf_limits.proofs.routing.wrong_routes.Given as goal

-- none so far breaks the rule
abbrev pub invariant-loop-i : goal.invariant-loop-i
invariant-loop-i l = first (flat_map (wrong_routes_of l.conf) (zip (drop l.i l.ordered.vlans) (drop l.i l.conf.vlans))) ≡ first (flat_map (wrong_routes_of l.conf) (zip l.ordered.vlans l.conf.vlans))
