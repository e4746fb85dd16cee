use Rattle.std.proofs.Common.{◌≡◌, drop}
use Rattle.conf_rules.specs.Names.{unknown_of_router, unknown_vlans}
use Rattle.conf_rules.specs.Places.{first}
use Rattle.std.specs.List.{flat_map}
use Rattle.conf_names.proofs.unknown.unknown_vlans.Given as goal

-- none so far breaks the rule
abbrev pub invariant-loop-router : goal.invariant-loop-router
invariant-loop-router l = first (flat_map (unknown_of_router l.ordered) (drop l.router-index l.ordered.routers)) ≡ first (unknown_vlans l.ordered)
