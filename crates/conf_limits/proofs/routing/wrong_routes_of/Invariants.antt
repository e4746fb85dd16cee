use Rattle.std.proofs.Common.{◌≡◌, drop, codes, [], ◌∷◌}
use Rattle.conf_rules.specs.Places.{first, nth, under, each_at}
use Rattle.conf_rules.specs.Routing.{wrong_route}
use Rattle.std.specs.List.{flat_map, enumerate_from}
use Rattle.conf_limits.proofs.routing.wrong_routes_of.Given as goal

-- none so far breaks the rule
abbrev pub invariant-loop-i : goal.invariant-loop-i
invariant-loop-i l = first (flat_map (wrong_route l.conf l.vlan) (flat_map (λ item. (nth (under l.placed.site (codes "routes")) item.0, item.1) ∷ []) (enumerate_from l.i (drop l.i l.vlan.routes)))) ≡ first (flat_map (wrong_route l.conf l.vlan) (each_at (under l.placed.site (codes "routes")) l.vlan.routes))
