use Rattle.std.proofs.Common.{◌≡◌, drop, codes, [], ◌∷◌}
use Rattle.conf_resolve.specs.InOrder.{router_site}
use Rattle.conf_rules.specs.Places.{first, nth, under, each_at}
use Rattle.conf_rules.specs.Routing.{routed_twice}
use Rattle.std.specs.List.{flat_map, enumerate_from}
use Rattle.conf_limits.proofs.routing.shared_of_router.Given as goal

-- none so far breaks the rule
abbrev pub invariant-loop-i : goal.invariant-loop-i
invariant-loop-i l = first (flat_map (routed_twice l.ordered l.earlier) (flat_map (λ item. (nth (under (router_site l.raw) (codes "vlans")) item.0, item.1) ∷ []) (enumerate_from l.i (drop l.i l.raw.vlans)))) ≡ first (flat_map (routed_twice l.ordered l.earlier) (each_at (under (router_site l.raw) (codes "vlans")) l.raw.vlans))
