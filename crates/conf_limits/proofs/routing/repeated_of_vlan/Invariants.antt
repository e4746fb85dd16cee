use Rattle.std.proofs.Common.{◌≡◌, drop, take, codes, [], ◌∷◌}
use Rattle.conf_limits.specs.MetRoutes.{HasRoutes, has_same_route_so_far}
use Rattle.conf_rules.specs.Places.{first, nth, under, with_earlier, each_at}
use Rattle.conf_rules.specs.Routing.{repeated_route}
use Rattle.std.specs.List.{flat_map, enumerate_from}
use Rattle.conf_limits.proofs.routing.repeated_of_vlan.Given as goal

-- none so far breaks the rule, and the routes so far are met
abbrev pub invariant-loop-i : goal.invariant-loop-i
invariant-loop-i l =
    (first (flat_map (repeated_route l.joined.conf.now (l.earlier, l.vlan)) (flat_map (λ item. (nth (under l.placed.site (codes "routes")) item.0, item.1) ∷ []) (enumerate_from l.i (with_earlier (take l.i l.vlan.routes) (drop l.i l.vlan.routes))))) ≡ first (flat_map (repeated_route l.joined.conf.now (l.earlier, l.vlan)) (each_at (under l.placed.site (codes "routes")) (with_earlier [] l.vlan.routes))))
    × HasRoutes l.met (has_same_route_so_far l.earlier l.vlan.vid (take l.i l.vlan.routes))
